-- What the sides of a goal of arithmetic say of running it.
use Rattle.std.proofs.Common.{ℕ, ℤ, ◌≡◌, Bool, true, false, List, Some, None, subst}
use Rattle.and_model.specs.Terms.{Term}
use Rattle.and_model.specs.Arithmetic.{Relation, related}
use Rattle.and_model.specs.Programs
use Rattle.and_model.specs.declared.goal.Goal.{Goal}
use Rattle.and_model.specs.declared.reference.Ref.{Ref}
use Rattle.and_program.specs.Skeletons.{node_term}
use Rattle.and_cells.specs.Ranges.{NamedProgram, pair_of}
use Rattle.and_branch_laws.specs.Kept.{item_at}
use Rattle.and_branch_laws.specs.Sides.{AreCompared}
use Rattle.and_branch_laws.proofs.Comparing.{left_open, right_open, values_compared}
use Rattle.and_step_laws.specs.Running.{Assigns}
use Rattle.and_step_laws.proofs.Outcomes.{comparison_waits, comparison_done, comparison_fails, is_waits, is_valueless, is_assigned, is_refused}
use Rattle.and_guards.specs.Sides.{IsSide}
use Rattle.and_reduction.specs.Sides as sides
use Rattle.and_reduction.specs.Sides.{IsComparison, AssignsTo, RunsTo, compared_with}
use Rattle.and_reduction.specs.declared.running.Ran.{Ran}
use Rattle.and_reduction.specs.declared.running.Ran.TheVariants as run
use Rattle.and_guards.specs.declared.guards.Side.{Side}
use Rattle.and_guards.specs.declared.guards.Side.TheVariants.{Waits, NoValue, Number}

-- ---- A comparison

module _ (P : NamedProgram) (row : List Ref) (base : ℕ) (o : Relation) (a b : Term) where
  compared_so : (outcome : Bool) → AreCompared P row base o a b outcome → IsComparison P row base o a b (sides.compared outcome)
  compared_so true is = is
  compared_so false is = is

  open_left : (cell : ℕ) → IsSide P row base a (Waits cell) → IsComparison P row base o a b (run.Waits cell)
  open_left cell side = (
    left_open P row base a b side.0,
    λ later grows sound free. left_open P later base a b (side.1 later grows sound free),
  )

  open_right : (cell : ℕ) → IsSide P row base b (Waits cell) → IsComparison P row base o a b (run.Waits cell)
  open_right cell side = (
    right_open P row base a b side.0,
    λ later grows sound free. right_open P later base a b (side.1 later grows sound free),
  )

  pub sides_compare : (l r : Side) → IsSide P row base a l → IsSide P row base b r → IsComparison P row base o a b (compared_with o l r)
  sides_compare (Waits cell) r one other = open_left cell one
  sides_compare NoValue (Waits cell) one other = open_right cell other
  sides_compare NoValue NoValue one other = values_compared P row base o a b None None one other
  sides_compare NoValue (Number y) one other = values_compared P row base o a b None (Some y) one other
  sides_compare (Number x) (Waits cell) one other = open_right cell other
  sides_compare (Number x) NoValue one other = values_compared P row base o a b (Some x) None one other
  sides_compare (Number x) (Number y) one other =
      compared_so (related o x y) (values_compared P row base o a b (Some x) (Some y) one other)

-- ---- A goal

module _ (P : NamedProgram) (old new : List Ref) (g : Goal) where
  pub comparison_runs : (o : Relation) (a b : Term) → item_at P.program g ≡ Programs.arithmetic (Programs.compare o a b) → new ≡ old
      → (r : Ran) → IsComparison P old g.base o a b r → RunsTo P old new g r
  comparison_runs o a b is same (run.Waits cell) c = (
    comparison_waits P old g o a b is c.0,
    λ later grows sound settled free. comparison_waits P later g o a b is (c.1 later grows sound free),
    same,
  )
  comparison_runs o a b is same run.Done c = comparison_done P old g o a b is new same c
  comparison_runs o a b is same run.False c = comparison_fails P old g o a b is c

  module _ (n m pair : ℕ) (a : Assigns P old g n m pair) where
    pub waiting_runs : (cell : ℕ) → new ≡ old → IsSide P old g.base (node_term P.skeleton.nodes m) (Waits cell)
        → RunsTo P old new g (run.Waits cell)
    waiting_runs cell same side = (
      is_waits P old g n m pair a.node a.item_is side.0,
      λ later grows sound settled free. is_waits P later g n m pair a.node a.item_is (side.1 later grows sound free),
      same,
    )

    pub valueless_runs : IsSide P old g.base (node_term P.skeleton.nodes m) NoValue → RunsTo P old new g run.False
    valueless_runs side = is_valueless P old g n m pair a.node a.item_is side

    number_runs : (z : ℤ) → IsSide P old g.base (node_term P.skeleton.nodes m) (Number z) → (r : Ran)
        → AssignsTo P old new g.base n (pair_of P g.clause.0 g.base pair) z r → RunsTo P old new g r
    number_runs z side (run.Waits cell) t = absurd t
    number_runs z side run.Done t = is_assigned P old g n m pair a.node a.item_is new z side t
    number_runs z side run.False t = is_refused P old g n m pair a.node a.item_is z side t

    -- What assigning a number comes to, the goal does.
    pub assignment_runs : (mid : List Ref) (first : ℕ) (y z : ℤ) → mid ≡ old → first ≡ pair_of P g.clause.0 g.base pair → y ≡ z
        → IsSide P old g.base (node_term P.skeleton.nodes m) (Number z) → (r : Ran) → AssignsTo P mid new g.base n first y r
        → RunsTo P old new g r
    assignment_runs mid first y z same there is side r t =
        number_runs z side r
        (subst (λ w. AssignsTo P old new g.base n (pair_of P g.clause.0 g.base pair) w r) is
        (subst (λ f. AssignsTo P old new g.base n f y r) there
        (subst (λ rows. AssignsTo P rows new g.base n first y r) same t)))
