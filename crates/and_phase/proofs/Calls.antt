-- Goals that are calls, by the items of their clauses.
use Rattle.std.proofs.Common.{◌≡◌, List, ap, ◌∙◌}
use Rattle.and_model.specs.Terms.{Term}
use Rattle.and_model.specs.Programs.{call}
use Rattle.and_model.specs.declared.goal.Goal.{Goal}
use Rattle.and_model.specs.declared.reference.Ref.{Ref}
use Rattle.and_program.specs.Loaded.{program_of}
use Rattle.and_program.specs.declared.loaded.Loaded.{Loaded}
use Rattle.and_cells.specs.Ranges.{NamedProgram}
use Rattle.and_cells.specs.Parts.{named}
use Rattle.and_branch_laws.specs.Kept.{item_at}
use Rattle.and_guards.specs.Goals.{CanBeJudged}
use Rattle.and_branch.specs.Finding.{IsSeen}

pub can_be_judged : (P : NamedProgram) (l : Loaded) → P ≡ named l → (row : List Ref) (g : Goal) → IsSeen P row g
    → (term : Term) × (item_at (program_of l) g ≡ call term) → CanBeJudged P row g
can_be_judged P l same row g seen call_is = record {
  in_range = seen.in_range;
  term = call_is.0;
  is_call = ap (λ (Q : NamedProgram). item_at Q.program g) same ∙ call_is.1;
  whole = seen.whole;
}
