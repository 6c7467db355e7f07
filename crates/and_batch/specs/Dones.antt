-- What came of jobs (this project's own).
use Rattle.std.specs.Prelude.{ℕ, List, map}

-- the number of a job, and the text that came of it
pub record DoneSeen : Type 0 where
  pub number : ℕ
  pub text : List ℕ

abbrev pub done : ℕ → List ℕ → DoneSeen
done number text = record { number = number; text = text }

-- the numbers of the jobs that were done, in order
abbrev pub numbers_of : List DoneSeen → List ℕ
numbers_of ds = map (λ (d : DoneSeen). d.number) ds
