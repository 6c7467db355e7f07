-- A branch opens the phase in which the acts were done.
use Rattle.std.proofs.Common.{ℕ, ◌≡◌, ◌≢◌, List, [], ◌∷◌, ◌++◌, map, refl, Contains}
use Rattle.and_model.specs.Terms.{Path, Substitution}
use Rattle.and_model.specs.Programs.{Arithmetic}
use Rattle.and_model.specs.Closure.{none_yet}
use Rattle.and_model.specs.Trees.{QueryTree, query_agenda, equations, arithmetics, weight}
use Rattle.and_model.specs.Reductions.{Reduction, PlaceHas, Makes}
use Rattle.and_model.specs.Stands.{Framed}
use Rattle.and_model.specs.declared.reference.Ref.{Ref}
use Rattle.and_laws.specs.Naming.{under}
use Rattle.and_cells.specs.Ranges.{NamedProgram}
use Rattle.and_cells.specs.Meaning.{equations_of}
use Rattle.and_phase_laws.specs.Journals.{Opening, TakenOut, goals_run}
use Rattle.and_phase_laws.proofs.Building.{Built, journal_builds}
use Rattle.and_phase_laws.proofs.Writing.{built_makes}
use Rattle.and_branch_laws.specs.OwnVariables.{OwnVariables}
use Rattle.and_branch_laws.specs.Variables.{IsVariable, AreNames}
use Rattle.and_branch_laws.specs.Tasks.{tasks}
use Rattle.and_branch_laws.specs.Kept.{Kept, goal_of, task_of}
use Rattle.and_branch_laws.proofs.Naming.{some_names}
use Rattle.and_worker_laws.specs.Leaving.{Leaves}
use Rattle.and_worker_laws.specs.PhaseCells.{Cells, AreCells, all_but, put_apart, cell_equations}
use Rattle.and_worker_laws.proofs.Framing.{variables_have_cells}
use Rattle.and_worker_laws.specs.Acts.{Act, reductions, AreTaken}
use Rattle.and_worker_laws.proofs.Building.{IsJournal, journal_of_acts}

-- A tree that the reductions make, with names and cells for all its variables.
pub record HasCells (P : NamedProgram) (all : List Reduction) : Type 0 where
  pub tree : QueryTree P.program
  pub made : Makes P.program all tree
  pub names : Substitution
  pub named : AreNames all names
  pub apart : Path
  pub cells : Cells
  pub are : AreCells (IsVariable P all) names apart cells
  pub fewer : (old : List Reduction) (own : Substitution) → ((r : Reduction) → Contains old r → Contains all r) → AreNames old own
      → AreCells (IsVariable P old) own apart cells
  pub only : (v : Path × ℕ) (n : ℕ) → Contains cells (v, n) → IsVariable P all v
  pub elsewhere : (node : ℕ) (q : Path) (i : ℕ) → PlaceHas all node q → (q ≢ apart) × (q ++ i ∷ [] ≢ apart)

-- An opening of the branch, in which the variables of the tree that it will end with have cells.
pub record Opens (P : NamedProgram) (first : List Ref) (kept : List Framed) (op : Opening P.program (query_agenda P.program))
    (all : List Reduction) (c : HasCells P all) : Type 0 where
  pub cells_are : op.cells ≡ under (put_apart c.apart) (equations_of P first) ++ cell_equations c.apart c.cells
  pub meant_are : op.meant ≡ all_but c.apart
  pub gone : List Arithmetic
  pub out : TakenOut gone (goals_run op.ran) []
  pub leaves : Leaves (tasks op.tree) gone (map (task_of P.program) kept)

-- The variables of a tree have cells.
pub some_cells : (P : NamedProgram) (all : List Reduction) (u : QueryTree P.program) → Makes P.program all u → HasCells P all
some_cells P all u made =
    let (names, named) = some_names P.program all u made in
    let (apart, cells, are, only, elsewhere) = variables_have_cells P all u made in
    record {
      tree = u;
      made = made;
      names = names;
      named = named;
      apart = apart;
      cells = cells;
      are = are all names (λ r i. i) named;
      fewer = are;
      only = only;
      elsewhere = elsewhere;
    }

module _ (P : NamedProgram) (own : OwnVariables P) (rs : List Reduction) (first : List Ref) (kept : List Framed) (t : QueryTree P.program)
    (k : Kept P rs first kept t) where
  -- Some opening of the branch gives the tree that the reductions make, whatever its cells say.
  pub some_tree : (acts : List Act) → AreTaken P.program (map goal_of kept) (weight t) acts
      → (u : QueryTree P.program) × Makes P.program (rs ++ reductions acts) u
  some_tree acts taken =
      let op : Opening P.program (query_agenda P.program) = record {
        tree = t;
        solved = equations t;
        waits = arithmetics t;
        ran = none_yet (equations t) (arithmetics t);
        cells = equations t;
        meant = all_but [];
        alike = (λ s p. (s, p, λ q n m. refl), λ s p. (s, p, λ q n m. refl));
      } in
      let j : IsJournal P rs op [] acts = journal_of_acts P own rs first kept op k [] acts taken in
      let built : Built op j.journal = journal_builds op j.journal j.placed in
      (built.tree, (built_makes P.program op rs j.journal built.tree (reductions acts) built.builds k.made j.written).0)
