-- The states of a body, which are counted before it is translated.
use Rattle.std.specs.Prelude.{ℕ, ◌<◌, ◌≡◌, List, [], ◌∷◌}
use Rattle.and_translation.specs.Translation.{walk, choose}
use Rattle.and_drafts.specs.declared.draft.ClauseDraft.{ClauseDraft}
use Rattle.and_grammar.specs.Acts.{Act, body, others, ends, join, resume, acts_of, AreTasksWithin, efforts}
use Rattle.and_grammar.specs.declared.counting.Counted.{Counted}
use Rattle.and_grammar.specs.declared.threading.Task.{Task}

-- the state behind an act and the next new variable, from a state and a next new variable on
abbrev pub counted : Act → (s n : ℕ) → ℕ × ℕ
counted (body b) s n = let w = walk b s n in (w.behind, w.next)
counted (others b from into) s n = (into, (choose b from into n).next)
counted (ends into) s n = (into, n)
counted join s n = (s, n)
counted (resume k) s n = (s, n)

-- behind several acts
abbrev pub all_counted : List Act → (s n : ℕ) → ℕ × ℕ
all_counted [] s n = (s, n)
all_counted (a ∷ todo) s n = all_counted todo (counted a s n).0 (counted a s n).1

-- A step: in the end it comes to the same, and less is left to do.
pub record Counts (d : ClauseDraft) (before after : List Task) (old new : Counted) : Type 0 where
  pub same : all_counted (acts_of d after) new.state new.next ≡ all_counted (acts_of d before) old.state old.next
  pub within : AreTasksWithin d before → AreTasksWithin d after
  pub less : efforts d after < efforts d before
