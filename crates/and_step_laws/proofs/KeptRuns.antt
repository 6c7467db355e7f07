-- Goals of arithmetic that a branch keeps, where they are run or cannot hold.
use Rattle.std.proofs.Common.{List, ◌∷◌, ◌++◌, sym, subst, Contains}
use Rattle.and_model.specs.Trees.{QueryTree}
use Rattle.and_model.specs.Reached.{Dead}
use Rattle.and_model.specs.Reductions.{Reduction}
use Rattle.and_model.specs.Stands.{Framed}
use Rattle.and_model.specs.declared.reference.Ref.{Ref}
use Rattle.and_cells.specs.Ranges.{NamedProgram}
use Rattle.and_branch_laws.specs.OwnVariables.{IsLoaded}
use Rattle.and_branch_laws.specs.Kept.{Kept}
use Rattle.and_branch_laws.proofs.Asking
use Rattle.and_step_laws.specs.Runs.{HasRun, CannotHold, compared, assigned}
use Rattle.and_step_laws.specs.Runs as runs

-- A goal that was run leaves the others.
pub run_keeps : (P : NamedProgram) (loaded : IsLoaded P) (rs : List Reduction) (row new : List Ref) (front : List Framed) (f : Framed)
    (back : List Framed) (t : QueryTree P.program) → Kept P rs row (front ++ f ∷ back) t → HasRun P row new f.goal
    → Kept P rs new (front ++ back) t
run_keeps P loaded rs row new front f back t k (compared r a b u v item one other first second is_true same) =
    subst (λ (l : List Ref). Kept P rs l (front ++ back) t) (sym same)
    (Asking.comparison_keeps P loaded rs row front f back t k r a b u v item one other first second is_true)
run_keeps P loaded rs row new front f back t k (assigned l r u z left right pair mid item node read ground valued sound written settled) =
    Asking.assignment_keeps P loaded rs row front f back t k l r u z left right pair item node read ground valued mid sound written new
    settled

-- One that cannot hold leaves no outcome.
pub cannot_dies : (P : NamedProgram) (loaded : IsLoaded P) (rs : List Reduction) (row : List Ref) (front : List Framed) (f : Framed)
    (back : List Framed) (t : QueryTree P.program) → Kept P rs row (front ++ f ∷ back) t → Contains (front ++ f ∷ back) f
    → CannotHold P row f.goal → Dead t
cannot_dies P loaded rs row front f back t k h (runs.CannotHold.compared r a b u v item one other first second is_false) =
    Asking.comparison_fails P loaded rs row (front ++ f ∷ back) t k f h r a b u v item one other first second is_false
cannot_dies P loaded rs row front f back t k h (runs.CannotHold.no_value l r u item read ground none_is) =
    Asking.no_value_fails P loaded rs row (front ++ f ∷ back) t k f h l r u item read ground none_is
cannot_dies P loaded rs row front f back t k h
    (runs.CannotHold.assigned l r u z left right pair mid item node read ground valued sound written none_is) =
    Asking.assignment_fails P loaded rs row front f back t k l r u z left right pair item node read ground valued mid sound written none_is
