-- Rounds of running goals of arithmetic.
use Rattle.std.specs.Prelude.{◌<◌, List, length}
use Rattle.and_model.specs.Reductions.{Reduction}
use Rattle.and_model.specs.Trees.{QueryTree, HasOutcome}
use Rattle.and_model.specs.declared.reference.Ref.{Ref}
use Rattle.and_cells.specs.Ranges.{NamedProgram}
use Rattle.and_proof.specs.Stacks.{in_order, NoneBefore}
use Rattle.and_proof.specs.Unfolding.{IsWholeIn, AllWait}
use Rattle.and_proof.specs.declared.waiting.Round.{Round}
use Rattle.and_proof.specs.declared.waiting.Round.TheVariants.{Still, Changed, False}
use Rattle.and_proof.specs.declared.waiting.Waiting.{Waiting}
use Rattle.and_proof.specs.declared.waiting.Way.{Way}

-- Each whole tree that was kept with the first goals is kept with these.
abbrev pub KeepsWhole : NamedProgram → (old new : List Ref) → (first now : Waiting) → Type 0
KeepsWhole P old new first now =
    (rs : List Reduction) (t : QueryTree P.program) → IsWholeIn P rs old (in_order first) t
    → IsWholeIn P rs new (in_order now) t

-- No tree that was kept with these goals has an outcome.
abbrev pub HasNone : NamedProgram → (row : List Ref) → Waiting → Type 0
HasNone P row w = (rs : List Reduction) (t : QueryTree P.program) → IsWholeIn P rs row (in_order w) t → HasOutcome t → ⊥

-- This is what a round that way came to: all goals were passed, and each waits, or some were run.
abbrev pub IsRound : NamedProgram → (old new : List Ref) → (first now : Waiting) → Way → Round → Type 0
IsRound P old new first now way Still = KeepsWhole P old new first now × NoneBefore way now
    × AllWait P new (in_order now)
IsRound P old new first now way Changed =
    KeepsWhole P old new first now × NoneBefore way now × (length (in_order now) < length (in_order first))
IsRound P old new first now way False = HasNone P old first
