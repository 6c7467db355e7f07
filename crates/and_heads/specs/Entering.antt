-- What pairs come to that are met one after the other, where the arguments of structures are left to parts.
use Rattle.std.specs.Prelude.{ℕ, ◌≡◌, List, [], ◌++◌, All}
use Rattle.and_model.specs.declared.reference.Ref.{Ref}
use Rattle.and_cells.specs.Ranges.{NamedProgram}
use Rattle.and_cells.specs.Seen.{Seen, OnlyReads}
use Rattle.and_unify.specs.declared.pairs.Pair.{Pair}
use Rattle.and_unify.specs.Meeting.{MeetApart}
use Rattle.and_unify.specs.Descending.{StepsPlainly}
use Rattle.and_unify.specs.Running.{Runs, BreaksOff, arguments_of_both}
use Rattle.and_heads.specs.declared.parts.Part.{Part}
use Rattle.and_heads.specs.declared.entering.Entered.{Entered}
use Rattle.and_heads.specs.declared.entering.Entered.TheVariants.{Done, Apart, GivenUp}
use Rattle.and_heads.specs.declared.entering.Begun.{Begun}
use Rattle.and_heads.specs.declared.entering.Begun.TheVariants.{At, Ended}
use Rattle.and_heads.specs.Parts.{HasShape, both_of, arguments_of_parts}

-- The pair is stepped. The parts that are put behind a list are of one shape, and their arguments are left.
pub record StepsToParts (P : NamedProgram) (p : Pair) (old new : Seen) (parts parts' : List Part)
    (bound bound' : List ℕ) : Type 0 where
  pub more : List Part
  pub gains : parts' ≡ parts ++ more
  pub shapes : All (HasShape P old.words) more
  pub steps : (list : List Pair) → StepsPlainly P p old new list (list ++ arguments_of_parts P more) bound bound'

-- What one pair comes to.
abbrev pub Meets : NamedProgram → Pair → (old new : Seen) → (parts parts' : List Part) → (bound bound' : List ℕ)
    → Entered → Type 0
Meets P p old new parts parts' bound bound' Done = StepsToParts P p old new parts parts' bound bound'
Meets P p old new parts parts' bound bound' Apart =
    ((one : Ref) × (other : Ref) × MeetApart P p.left p.right old new one other) × (bound' ≡ bound)
Meets P p old new parts parts' bound bound' GivenUp = OnlyReads old new × (bound' ≡ bound)

-- What pairs that were to do come to, where the arguments of parts are left.
abbrev pub ComesToParts : NamedProgram → (old new : Seen) → (todo : List Pair) → (parts : List Part)
    → (bound bound' : List ℕ) → Entered → Type 0
ComesToParts P old new todo parts bound bound' Done = Runs P old todo bound new (arguments_of_parts P parts) bound'
ComesToParts P old new todo parts bound bound' Apart =
    (one : Ref) × (other : Ref) × BreaksOff P old new todo bound bound' one other
ComesToParts P old new todo parts bound bound' GivenUp = (left : List Pair) × Runs P old todo bound new left bound'

-- What the beginning comes to: the arguments of a part and of those on the list are left, or all is told.
abbrev pub Begins : NamedProgram → (old new : Seen) → (todo : List Pair) → (parts : List Part)
    → (bound bound' : List ℕ) → Begun → Type 0
Begins P old new todo parts bound bound' (At part) = HasShape P new.words part × All (HasShape P new.words) parts
    × Runs P old todo bound new (arguments_of_both P (both_of part) ++ arguments_of_parts P parts) bound'
Begins P old new todo parts bound bound' (Ended entered) = ComesToParts P old new todo [] bound bound' entered
