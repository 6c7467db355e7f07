-- What the sides of a goal of arithmetic say of it.
use Rattle.std.proofs.Common.{ℕ, ℤ, ◌≡◌, true, false, List, Some, None, sym, ◌∙◌, subst}
use Rattle.and_model.specs.Terms.{Term, none, more}
use Rattle.and_model.specs.Arithmetic.{Relation}
use Rattle.and_model.specs.Programs
use Rattle.and_model.specs.Programs.{Item, Arithmetic}
use Rattle.and_model.specs.Closure.{needs}
use Rattle.and_model.specs.declared.goal.Goal.{Goal}
use Rattle.and_model.specs.declared.reference.Ref.{Ref}
use Rattle.and_program.specs.Skeletons
use Rattle.and_program.specs.Skeletons.{node_term}
use Rattle.and_cells.specs.Ranges.{NamedProgram, pair_of}
use Rattle.and_branch_laws.specs.Running.{AreRead}
use Rattle.and_branch_laws.specs.Kept.{item_at, node_item_at}
use Rattle.and_branch_laws.specs.Sides.{IsOpen, AreOpen, ComesTo, AreCompared}
use Rattle.and_branch_laws.proofs.Comparing.{first_open}
use Rattle.and_step_laws.specs.Assigning.{IsAssigned, IsRefused}
use Rattle.and_step_laws.specs.Runs as runs
use Rattle.and_step_laws.specs.Runs.{IsWaiting, HasRun, CannotHold, no_value}

-- what one goal of arithmetic is, another that is the same item is
same_arithmetic : (i : Item) (a b : Arithmetic) → i ≡ Programs.arithmetic a → i ≡ Programs.arithmetic b → b ≡ a
same_arithmetic i a b one other = let both = sym other ∙ one in cc

-- A goal waits where what it needs does not read as ground terms.
so_waits : (P : NamedProgram) (row : List Ref) (g : Goal) (a : Arithmetic) → item_at P.program g ≡ Programs.arithmetic a
    → AreOpen P row g.base (needs a) → IsWaiting P row g
so_waits P row g a is never b us other read ground =
    never us (subst (λ (x : Arithmetic). AreRead P row g.base (needs x) us) (same_arithmetic (item_at P.program g) a b is other) read)
    ground

module _ (P : NamedProgram) (row : List Ref) (g : Goal) (o : Relation) (a b : Term)
    (is : item_at P.program g ≡ Programs.arithmetic (Programs.compare o a b)) where
  pub comparison_waits : AreOpen P row g.base (more a (more b none)) → IsWaiting P row g
  comparison_waits = so_waits P row g (Programs.compare o a b) is

  pub comparison_done : (new : List Ref) → new ≡ row → AreCompared P row g.base o a b true → HasRun P row new g
  comparison_done new same c =
      runs.HasRun.compared o a b c.left c.right is c.left_read c.right_read c.left_ground c.right_ground c.outcome_is same

  pub comparison_fails : AreCompared P row g.base o a b false → CannotHold P row g
  comparison_fails c =
      runs.CannotHold.compared o a b c.left c.right is c.left_read c.right_read c.left_ground c.right_ground c.outcome_is

module _ (P : NamedProgram) (row : List Ref) (g : Goal) (n m pair : ℕ) (node : node_item_at P g ≡ Skeletons.is n m pair)
    (is : item_at P.program g ≡ Programs.arithmetic (Programs.is (node_term P.skeleton.nodes n) (node_term P.skeleton.nodes m))) where
  pub is_waits : IsOpen P row g.base (node_term P.skeleton.nodes m) → IsWaiting P row g
  is_waits side = so_waits P row g (Programs.is (node_term P.skeleton.nodes n) (node_term P.skeleton.nodes m)) is
      (first_open P row g.base (node_term P.skeleton.nodes m) side)

  pub is_valueless : ComesTo P row g.base (node_term P.skeleton.nodes m) None → CannotHold P row g
  is_valueless (u, read, ground, none_is) =
      no_value (node_term P.skeleton.nodes n) (node_term P.skeleton.nodes m) u is read ground none_is

  pub is_assigned : (new : List Ref) (z : ℤ) → ComesTo P row g.base (node_term P.skeleton.nodes m) (Some z)
      → IsAssigned P row new g.base n (pair_of P g.clause.0 g.base pair) z → HasRun P row new g
  is_assigned new z (u, read, ground, some) a =
      runs.HasRun.assigned (node_term P.skeleton.nodes n) (node_term P.skeleton.nodes m) u z n m pair a.written is node read ground some
      a.sound a.is_written a.settled

  pub is_refused : (z : ℤ) → ComesTo P row g.base (node_term P.skeleton.nodes m) (Some z)
      → IsRefused P row g.base n (pair_of P g.clause.0 g.base pair) z → CannotHold P row g
  is_refused z (u, read, ground, some) a =
      runs.CannotHold.assigned (node_term P.skeleton.nodes n) (node_term P.skeleton.nodes m) u z n m pair a.written is node read ground
      some a.sound a.is_written a.unsolved
