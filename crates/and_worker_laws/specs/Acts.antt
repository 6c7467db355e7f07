-- What the workers of a phase did, in the terms of the cells (this project's own).
use Rattle.std.specs.Prelude.{ℕ, ◌+◌, ◌≡◌, ◌⊎◌, cond, nat_eq, leb, ◌&&◌, List, [], ◌∷◌, ◌++◌, map, Contains}
use Rattle.and_model.specs.Terms.{Term, Terms}
use Rattle.and_model.specs.Solutions.{Equation}
use Rattle.and_model.specs.Programs.{Program, call, Arithmetic, is, compare, Of, clause_at, clause_weight}
use Rattle.and_model.specs.Closure.{added}
use Rattle.and_model.specs.Reductions.{Reduction}
use Rattle.and_model.specs.Stands.{term_of}
use Rattle.and_model.specs.declared.goal.Goal.{Goal}
use Rattle.and_branch_laws.specs.Variables.{placed}
use Rattle.and_branch_laws.specs.Reducing.{reduction_in_cells, body_goals}
use Rattle.and_branch_laws.specs.Kept.{goal_of, item_at}

-- A thing done, by the number of the worker who did it.
-- Takes: the call was reduced. Sets: a cell was set, which states an equation of cells. (A word of a pair that was
-- set, and a goal that was hung on a cell, state what is true of all cells.) Fails: the worker called `fail`.
pub data Act : Type 0 where
  takes : (worker : ℕ) → Goal → Reduction → Act
  sets : (worker : ℕ) → Equation → Act
  fails : (worker : ℕ) → Act

-- Of a list of acts the newest comes first, and behind an act stands what had been done before it.

-- arithmetic that a worker ran, with the ground terms that it then had, and how many acts there were by then
pub record RunInCells : Type 0 where
  pub at : ℕ
  pub worker : ℕ
  pub goal : Goal
  pub what : Arithmetic
  pub terms : Terms

-- what was set, as equations
abbrev pub stated : List Act → List Equation
stated [] = []
stated (takes w g r ∷ before) = stated before
stated (sets w e ∷ before) = e ∷ stated before
stated (fails w ∷ before) = stated before

-- the reductions, the oldest first
abbrev pub reductions : List Act → List Reduction
reductions [] = []
reductions (takes w g r ∷ before) = reductions before ++ r ∷ []
reductions (sets w e ∷ before) = reductions before
reductions (fails w ∷ before) = reductions before

-- what their clauses weigh
abbrev pub weight_taken : Program → List Act → ℕ
weight_taken P [] = 0
weight_taken P (takes w g r ∷ before) = clause_weight (clause_at P r.clause) + weight_taken P before
weight_taken P (sets w e ∷ before) = weight_taken P before
weight_taken P (fails w ∷ before) = weight_taken P before

-- what the reductions ask of the cells,
abbrev pub asked : Program → List Act → List Equation
asked P [] = []
asked P (takes w g r ∷ before) = reduction_in_cells P g r.clause r.node ++ asked P before
asked P (sets w e ∷ before) = asked P before
asked P (fails w ∷ before) = asked P before

-- and those of one worker
abbrev pub asked_by : Program → (worker : ℕ) → List Act → List Equation
asked_by P n [] = []
asked_by P n (takes w g r ∷ before) =
    cond (nat_eq w n) (reduction_in_cells P g r.clause r.node) [] ++ asked_by P n before
asked_by P n (sets w e ∷ before) = asked_by P n before
asked_by P n (fails w ∷ before) = asked_by P n before

-- arithmetic of a clause, in the cells of the frame at the base
abbrev pub arithmetic_at : (base : ℕ) → Arithmetic → Arithmetic
arithmetic_at base (is l r) = is (placed base l) (placed base r)
arithmetic_at base (compare r a b) = compare r (placed base a) (placed base b)

-- what a run asks of the cells
abbrev pub added_by_run : RunInCells → List Equation
added_by_run r = added (arithmetic_at r.goal.base r.what) r.terms

-- what all runs ask,
abbrev pub all_added : List RunInCells → List Equation
all_added [] = []
all_added (r ∷ runs) = added_by_run r ++ all_added runs

-- and those that one worker had made when there were so many acts
abbrev pub added_by : (worker long : ℕ) → List RunInCells → List Equation
added_by n long [] = []
added_by n long (r ∷ runs) = cond (nat_eq r.worker n && leb r.at long) (added_by_run r) [] ++ added_by n long runs

-- the goals of the body of a reduction's clause
abbrev pub goals_of_body : Program → Reduction → List Goal
goals_of_body P r = map goal_of (body_goals r.clause r.node [] 0 (clause_at P r.clause).body)

-- The goal is one of the opening's, or stands in the body of a clause by which a call had been reduced.
abbrev pub IsThere : Program → (opening : List Goal) → List Act → Goal → Type 0
IsThere P opening acts g = Contains opening g
    ⊎ ((w : ℕ) × (h : Goal) × (r : Reduction) × Contains acts (takes w h r) × Contains (goals_of_body P r) g)

-- The call was there, and no reduction before had taken it. The clause is of its predicate, and its frame begins
-- behind those before it.
pub record IsTaken (P : Program) (opening : List Goal) (used : ℕ) (before : List Act) (g : Goal)
    (r : Reduction) : Type 0 where
  pub there : IsThere P opening before g
  pub term : Term
  pub is_call : item_at P g ≡ call term
  pub parent : r.parent ≡ g.node
  pub item : r.item ≡ g.item
  pub of : Of P (term_of P g) r.clause
  pub node : r.node ≡ used + weight_taken P before
  pub once : (w : ℕ) (h : Goal) (s : Reduction) → Contains before (takes w h s) → s.parent ≡ g.node
      → s.item ≡ g.item → ⊥

-- So it is with each reduction, where the opening weighed so much.
abbrev pub AreTaken : Program → (opening : List Goal) → (used : ℕ) → List Act → Type 0
AreTaken P opening used [] = Unit {0}
AreTaken P opening used (takes w g r ∷ before) = IsTaken P opening used before g r × AreTaken P opening used before
AreTaken P opening used (sets w e ∷ before) = AreTaken P opening used before
AreTaken P opening used (fails w ∷ before) = AreTaken P opening used before

-- some worker called `fail`
abbrev pub HasFailed : List Act → Type 0
HasFailed acts = (w : ℕ) × Contains acts (fails w)
