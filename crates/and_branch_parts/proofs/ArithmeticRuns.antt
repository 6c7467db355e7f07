-- Arithmetic that is run in a branch.
use Rattle.std.proofs.Common.{◌≡◌, ◌≤◌, true, false, List, ◌++◌, length, refl, ap, sym, ◌∙◌, inl, inr}
use Rattle.std.proofs.Common.{arith}
use Rattle.std.specs.Prelude.{All}
use Rattle.std.proofs.lemmas.Bool.{true≢false}
use Rattle.and_model.specs.Programs.{Item, call, equal, arithmetic, fail, Program}
use Rattle.and_model.specs.Stands.{Framed}
use Rattle.and_model.specs.Trees.{QueryTree}
use Rattle.and_model.specs.declared.goal.Goal.{Goal}
use Rattle.and_model.specs.declared.limits.TheConstants.{MAX_LIMIT}
use Rattle.and_model.specs.declared.reference.Ref.{Ref}
use Rattle.and_cells.specs.Ranges.{NamedProgram}
use Rattle.and_branch_laws.specs.OwnVariables.{IsLoaded}
use Rattle.and_branch_laws.specs.Kept.{item_at, task_in, is_call, IsCall}
use Rattle.and_branch_laws.specs.Goals.{CanBeJudged}
use Rattle.and_branch_parts.specs.Branches.{Held, is_arithmetic, Lives, IsBranchOf}
use Rattle.and_branch_parts.specs.Finding.{IsCallGoal, IsCallOrArithmetic, IsSeen}
use Rattle.and_branch_parts.proofs.GoalsRun.{live_of, reached_fits}
use Rattle.and_branch_parts.proofs.SeenGoals.{kept_seen}

-- ---- Goals and what is kept

-- a goal that is no arithmetic is a call of the tree, and back
call_kind : (P : Program) (f : Framed) (i : Item) → is_arithmetic i ≡ false → is_call (task_in P f i) ≡ true
call_kind P f (call g) e = refl
call_kind P f (equal a b) e = refl
call_kind P f (arithmetic a) e = absurd (true≢false e)
call_kind P f fail e = refl

kind_call : (P : Program) (f : Framed) (i : Item) → is_call (task_in P f i) ≡ true → is_arithmetic i ≡ false
kind_call P f (call g) e = refl
kind_call P f (equal a b) e = refl
kind_call P f (arithmetic a) e = absurd (true≢false (sym e))
kind_call P f fail e = refl

pub called : (P : NamedProgram) (f : Framed) → IsCallGoal P f.goal → IsCall P.program f
called P f e = call_kind P.program f (item_at P.program f.goal) e

pub calls : (P : NamedProgram) (f : Framed) → IsCall P.program f → IsCallGoal P f.goal
calls P f e = kind_call P.program f (item_at P.program f.goal) e

-- ---- What can be judged

can_judge : (P : NamedProgram) (row : List Ref) (g : Goal) (i : Item) → item_at P.program g ≡ i → IsSeen P row g → IsCallOrArithmetic i
    → is_arithmetic i ≡ false → CanBeJudged P row g
can_judge P row g i e x (inl c) a = record { in_range = x.in_range; term = c.0; is_call = e ∙ c.1; whole = x.whole }
can_judge P row g i e x (inr w) a = absurd (true≢false (sym (ap is_arithmetic w.1) ∙ a))

pub can_be_judged : (P : NamedProgram) (row : List Ref) (g : Goal) → IsSeen P row g → IsCallGoal P g → CanBeJudged P row g
can_be_judged P row g x a = can_judge P row g (item_at P.program g) refl x x.kind a

module _ (P : NamedProgram) (loaded : IsLoaded P) (b : Held) (t : QueryTree P.program) (x : IsBranchOf P b t)
    (live : b.is_failed ≡ false) where
  pub lives : Lives P b t
  lives = live_of P b t live x

  pub row_fits : length b.row ≤ b.limit
  row_fits = let w = reached_fits P.program b.limit b.key t x.reached in let l = lives.long in let u = x.used in omega arith

  pub row_short : length b.row ≤ MAX_LIMIT
  row_short = let w = row_fits in let m = x.bounded in omega arith

  pub all_seen : All (IsSeen P b.row) (b.left ++ b.right)
  all_seen = kept_seen P loaded b.reductions b.row lives.kept t lives.keeps (b.left ++ b.right) lives.goals
