-- Branches of which the row and the reductions of another one can be had again (this project's own).
use Rattle.std.specs.Prelude.{◌≡◌, ◌⊎◌, ◌++◌, List, [], ◌∷◌, None}
use Rattle.and_model.specs.Reductions.{Reduction}
use Rattle.and_reduction.specs.Trails.{IsNoted}
use Rattle.and_branch_parts.specs.Branches.{Held}

-- The first branch's row and reductions can be had again from this one.
pub record GoesBack (first b : Held) : Type 0 where
  pub row : IsNoted first.row b.trail b.row
  pub made : List Reduction
  pub reductions : b.reductions ≡ first.reductions ++ made

-- What could be had from the old branch can be had from the new one, which has its reductions and perhaps more.
pub record KeepsBack (old new : Held) : Type 0 where
  pub mark : new.trail.mark ≡ old.trail.mark
  pub again : (first : Held) → GoesBack first old → GoesBack first new
  pub made : List Reduction
  pub grows : new.reductions ≡ old.reductions ++ made

-- So it is, or nothing is noted any longer.
abbrev pub KeepsWhatIsNoted : (old new : Held) → Type 0
KeepsWhatIsNoted old new = (new.trail.mark ≡ None) ⊎ KeepsBack old new

-- Each of these branches can be had again from the one before it, and the first of them from the branch at work.
abbrev pub GoBackFrom : Held → (forked : List Held) → Type 0
GoBackFrom b [] = Unit {0}
GoBackFrom b (first ∷ others) = GoesBack first b × GoBackFrom first others
