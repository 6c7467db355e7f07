-- The first answers of a program, by depth-first iterative deepening (Korf, 1985): the depth is the weight of proofs
-- (the steps are this project's own).
use Rattle.std.specs.Prelude.{ℕ, ◌*◌, ◌^◌, ◌<◌, ◌≤◌, ◌≡◌, ◌⊎◌, Bool, true, false, List, [], ◌∷◌, ◌++◌, length, take}
use Rattle.std.specs.Prelude.{codes}
use Rattle.std.specs.Fmt.{decimal}
use Rattle.std.specs.List.{list_any}
use Rattle.and_model.specs.Limits.{Cut, OverLimit}
use Rattle.and_model.specs.Lines.{Bytes}
use Rattle.and_model.specs.Listing as listings
use Rattle.and_model.specs.Listing.{Entry, Outcome, Listing, Exhausted}
use Rattle.and_model.specs.Output.{complete, limit_met, last_lines, lines_of}
use Rattle.and_model.specs.Programs.{Program}
use Rattle.and_model.specs.Reached.{Numbers}
use Rattle.and_model.specs.Trees.{blank, query_agenda}
use Rattle.and_first.specs.declared.first.End.{End}
use Rattle.and_first.specs.declared.first.End.TheVariants.{Within, Complete, LimitMet}
use Rattle.and_first.specs.declared.first.First.{First}

-- A step of a limit: 256, 1,024, 4,096 and so on, each four times the one before, as long as they are below the
-- limit; and then the limit.
abbrev pub IsStep : (limit step : ℕ) → Type 0
IsStep limit step = ((n : ℕ) × (step ≡ 256 * 4 ^ n) × (step < limit)) ⊎ (step ≡ limit)

-- Fewer entries than that are listed within the step.
abbrev pub ListsFewer : Program → (count step : ℕ) → Type 0
ListsFewer P count step = (ls : List Entry) × Listing P step ls × (length ls < count)

-- These are the first so many entries within the step, and within each step before it there are fewer.
pub record AreFirst (P : Program) (limit count step : ℕ) (told : List Entry) : Type 0 where
  pub is_step : IsStep limit step
  pub before : (less : ℕ) → IsStep limit less → less < step → ListsFewer P count less
  pub listing : List Entry
  pub lists : Listing P step listing
  pub enough : count ≤ length listing
  pub first : told ≡ take count listing

-- Within each step there are fewer, and these are all entries within one, which every larger limit has, too; the
-- query's tree of forks is finite.
pub record AreAll (P : Program) (limit count : ℕ) (told : List Entry) : Type 0 where
  pub fewer : (step : ℕ) → IsStep limit step → ListsFewer P count step
  pub step : ℕ
  pub is_step : IsStep limit step
  pub lists : Listing P step told
  pub exhausted : Exhausted P step
  pub forks : ℕ
  pub failed : ℕ
  pub numbers : Numbers (blank {P = P} (query_agenda P)) forks failed

-- Within each step there are fewer, and these are all entries within the limit, which kept the search from going on.
pub record AreSome (P : Program) (limit count : ℕ) (told : List Entry) : Type 0 where
  pub fewer : (step : ℕ) → IsStep limit step → ListsFewer P count step
  pub lists : Listing P limit told
  pub cut : Cut P
  pub over : OverLimit P limit cut

-- what is told, by how the search ended
abbrev pub IsTold : Program → (limit count : ℕ) → End → List Entry → Type 0
IsTold P limit count (Within step) told = AreFirst P limit count step told
IsTold P limit count Complete told = AreAll P limit count told
IsTold P limit count LimitMet told = AreSome P limit count told

-- the line that says how the search ended
abbrev pub last_line : (count : ℕ) → End → Bytes
last_line count (Within step) = codes "% first " ++ decimal count ++ codes " within " ++ decimal step ++ 10 ∷ []
last_line count Complete = last_lines complete
last_line count LimitMet = last_lines limit_met

-- The text is the lines of what is told, and then how the search ended.
abbrev pub IsFirst : Program → (limit count : ℕ) → Bytes → Type 0
IsFirst P limit count text =
    (told : List Entry) × (end : End) × IsTold P limit count end told × (text ≡ lines_of told ++ last_line count end)

-- the line is no answer, since some arithmetic waits forever
abbrev pub is_floundered : Outcome → Bool
is_floundered (listings.answer text) = false
is_floundered (listings.floundered text) = true

-- What is answered: such a text, how many lines are told, and whether one of them is floundered.
pub record IsFirstOf (P : Program) (limit count : ℕ) (first : First) : Type 0 where
  pub told : List Entry
  pub is_told : IsTold P limit count first.end told
  pub text : first.text ≡ lines_of told ++ last_line count first.end
  pub lines : first.lines ≡ length told
  pub floundered : first.floundered ≡ list_any (λ (e : Entry). is_floundered e.outcome) told
