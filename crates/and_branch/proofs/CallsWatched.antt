-- Calls that are asleep while cells are free.
use Rattle.std.proofs.Common.{ℕ, ◌≡◌, List, sym, ◌∙◌}
use Rattle.and_model.specs.Terms.{Term}
use Rattle.and_model.specs.Programs.{call, arithmetic}
use Rattle.and_model.specs.declared.goal.Goal.{Goal}
use Rattle.and_model.specs.declared.reference.Ref.{Ref}
use Rattle.and_cells.specs.Ranges.{NamedProgram}
use Rattle.and_branch_laws.specs.Kept.{item_at}
use Rattle.and_determinacy.specs.Watching.{RestsOn, TwoStayWhile}
use Rattle.and_branch_parts.specs.Watching.{Watched, HasTwo, IsAsleep}

-- A call is of which two candidates rest on the cells,
pub call_asleep : (P : NamedProgram) (row : List Ref) (w : Watched) (term : Term) → item_at P.program w.goal ≡ call term
    → TwoStayWhile P row w.goal w.cells → IsAsleep P row w
call_asleep P row w term e (c, d, other, one, two) = record {
  while_free = λ later grows sound settled free. record {
    waits = λ a us f read ground. (let both : call term ≡ arithmetic a = sym e ∙ f in absurd (cc));
    several = λ t f. (c, d, other, one later grows sound settled free, two later grows sound settled free);
  };
}

-- as both of a call do where all rest on them,
pub two_stay : (P : NamedProgram) (row : List Ref) (g : Goal) (cells : List ℕ) → HasTwo P row g → RestsOn P row g cells → TwoStayWhile P row g cells
two_stay P row g cells (c, d, other, one, two) rests = (
  c,
  d,
  other,
  λ later grows sound settled free. rests later grows sound settled free c one,
  λ later grows sound settled free. rests later grows sound settled free d two,
)
