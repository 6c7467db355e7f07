-- A branch opens a phase.
use Rattle.std.proofs.Common.{ℕ, ◌≡◌, true, true≢false, not, List, [], ◌++◌, map, ap, sym, subst, ◌∙◌}
use Rattle.and_model.specs.Terms.{Path}
use Rattle.and_model.specs.Programs.{Arithmetic}
use Rattle.and_model.specs.Closure.{Ran}
use Rattle.and_model.specs.Trees.{QueryTree, equations, arithmetics}
use Rattle.and_model.specs.Reductions.{Reduction}
use Rattle.and_model.specs.Stands.{Framed}
use Rattle.and_model.specs.declared.reference.Ref.{Ref}
use Rattle.and_laws.specs.Naming.{under}
use Rattle.and_laws.proofs.Printing.{same_path_self}
use Rattle.and_cells.specs.Ranges.{NamedProgram}
use Rattle.and_cells.specs.Meaning.{equations_of}
use Rattle.and_phase_laws.specs.Sharing.{Alike}
use Rattle.and_phase_laws.specs.Journals.{TakenOut, goals_run}
use Rattle.and_branch_laws.specs.OwnVariables.{OwnVariables}
use Rattle.and_branch_laws.specs.Variables.{IsVariable}
use Rattle.and_branch_laws.specs.Tasks.{tasks, arithmetic_among}
use Rattle.and_branch_laws.specs.Kept.{Kept, task_of}
use Rattle.and_branch_laws.proofs.Tasks.{tasks_arithmetic}
use Rattle.and_branch_laws.proofs.Keeping.{solved_speaks}
use Rattle.and_worker_laws.specs.Leaving.{Leaves}
use Rattle.and_worker_laws.specs.PhaseCells.{Cells, AreCells, all_but, put_apart, cell_equations}
use Rattle.and_worker_laws.proofs.Leaving.{WasRun, was_run}
use Rattle.and_worker_laws.proofs.PhaseCells.{cells_alike}

pub branch_opens : (P : NamedProgram) → OwnVariables P
    → (rs : List Reduction) (row : List Ref) (kept : List Framed) (t : QueryTree P.program) (k : Kept P rs row kept t)
    (apart : Path) (cells : Cells) → AreCells (IsVariable P rs) k.names apart cells
    → (gone : List Arithmetic) × (ran : Ran (equations t) (arithmetics t) k.solved (arithmetic_among (map (task_of P.program) kept)))
    × TakenOut gone (goals_run ran) [] × Leaves (tasks t) gone (map (task_of P.program) kept)
    × Alike (all_but apart) k.solved (under (put_apart apart) (equations_of P row) ++ cell_equations apart cells)
branch_opens P own rs row kept t k apart cells are =
    let w : WasRun (equations t) k.solved (tasks t) (map (task_of P.program) kept) =
    was_run (equations t) (tasks t) k.solved (map (task_of P.program) kept) k.ran in
    let ran : (r : Ran (equations t) (arithmetics t) k.solved (arithmetic_among (map (task_of P.program) kept))) × TakenOut w.gone (goals_run r) [] =
    subst (λ (gs : List Arithmetic). (r : Ran (equations t) gs k.solved (arithmetic_among (map (task_of P.program) kept))) × TakenOut w.gone (goals_run r) [])
    (tasks_arithmetic t) (w.ran, w.out) in
    let unmeant : (j : ℕ) → all_but apart apart j ≡ true → ⊥ = λ j e. true≢false (sym e ∙ ap not (same_path_self apart)) in (
      w.gone,
      ran.0,
      ran.1,
      w.left,
      cells_alike (IsVariable P rs) k.names apart cells are (all_but apart) (equations_of P row) k.solved (solved_speaks P own rs row kept t k)
          k.states k.stated unmeant,
    )
