-- What a reduction adds to a tree, and what it asks of the cells.
use Rattle.std.specs.Prelude.{ℕ, suc, List, [], ◌∷◌}
use Rattle.and_model.specs.Terms.{Path}
use Rattle.and_model.specs.Solutions.{Equation}
use Rattle.and_model.specs.Programs.{Program, Item, call, equal, arithmetic, fail, clause_at}
use Rattle.and_model.specs.Reductions.{Reduction}
use Rattle.and_model.specs.Stands.{Framed, term_of}
use Rattle.and_model.specs.declared.goal.Goal.{Goal}
pub use Rattle.and_laws.specs.Reducing.{body_equations, reduction_equations}
use Rattle.and_branch_laws.specs.Variables.{placed}

-- the equations of a reduction in the cells: the call in its frame, and the clause in the frame that begins at the base
abbrev pub reduction_in_cells : Program → Goal → (clause base : ℕ) → List Equation
reduction_in_cells P g c base =
    (placed g.base (term_of P g), placed base (clause_at P c).head) ∷ body_equations (placed base) (clause_at P c).body

-- the reduction of a goal by a clause, which stands at that place
abbrev pub reduction_by : Goal → (clause node : ℕ) → Reduction
reduction_by g c n = record { parent = g.node; item = g.item; clause = c; node = n }

-- an item of the clause at a place as a goal, with the path of the place: in the frame that begins at the place's
-- number
abbrev pub goal_at : (clause node : ℕ) → Path → (item : ℕ) → Framed
goal_at c n q i = record { goal = record { node = n; item = i; clause = record { 0 = c }; base = n }; frame = q }

-- the calls and the arithmetic among the items of its body as goals
abbrev pub body_goals : (clause node : ℕ) → Path → (item : ℕ) → List Item → List Framed
body_goals c n q i [] = []
body_goals c n q i (call g ∷ items) = goal_at c n q i ∷ body_goals c n q (suc i) items
body_goals c n q i (equal a b ∷ items) = body_goals c n q (suc i) items
body_goals c n q i (arithmetic a ∷ items) = goal_at c n q i ∷ body_goals c n q (suc i) items
body_goals c n q i (fail ∷ items) = body_goals c n q (suc i) items
