-- Goals that were moved with their frames.
use Rattle.std.proofs.Common.{ℕ, ◌≡◌, true, false, not, cond, Bool, List, [], ◌∷◌, ◌++◌, map, refl, sym, ap, ◌∙◌}
use Rattle.std.proofs.lemmas.List.{map-append}
use Rattle.and_model.specs.Terms.{Term}
use Rattle.and_model.specs.Programs.{Program, Item, call, equal, arithmetic, fail}
use Rattle.and_model.specs.Stands.{Framed, in_tree}
use Rattle.and_model.specs.declared.goal.Goal.{Goal}
use Rattle.and_cells.specs.Ranges.{NamedProgram}
use Rattle.and_branch_laws.specs.Tasks.{Task}
use Rattle.and_branch_laws.specs.Kept.{task_in, task_of, is_call, IsCall, item_at, goal_of, calls_kept, arithmetic_kept}
use Rattle.and_branch_laws.proofs.Reading.{goals_first}
use Rattle.and_moved_laws.specs.Parts.{goal_moved, framed_moved}

-- They are the same tasks,
task_same : (P : Program) (at : ℕ → ℕ) (f : Framed) (i : Item) → task_in P (framed_moved at f) i ≡ task_in P f i
task_same P at f (call g) = refl
task_same P at f (equal a b) = refl
task_same P at f (arithmetic a) = refl
task_same P at f fail = refl

pub tasks_same : (P : Program) (at : ℕ → ℕ) (fs : List Framed) → map (task_of P) (map (framed_moved at) fs) ≡ map (task_of P) fs
tasks_same P at [] = refl
tasks_same P at (f ∷ fs) =
    ap (λ (t : Task). t ∷ map (task_of P) (map (framed_moved at) fs)) (task_same P at f (item_at P f.goal))
    ∙ ap (λ (l : List Task). task_of P f ∷ l) (tasks_same P at fs)

-- so that the calls and the arithmetic among them are those that were moved.
kept_step : (at : ℕ → ℕ) (f : Framed) (b : Bool) (fs gs : List Framed) → gs ≡ map (framed_moved at) fs
    → cond b (framed_moved at f ∷ gs) gs ≡ map (framed_moved at) (cond b (f ∷ fs) fs)
kept_step at f true fs gs e = ap (λ (l : List Framed). framed_moved at f ∷ l) e
kept_step at f false fs gs e = e

pub calls_moved : (P : Program) (at : ℕ → ℕ) (fs : List Framed)
    → calls_kept P (map (framed_moved at) fs) ≡ map (framed_moved at) (calls_kept P fs)
calls_moved P at [] = refl
calls_moved P at (f ∷ fs) =
    ap (λ (t : Task). cond (is_call t) (framed_moved at f ∷ calls_kept P (map (framed_moved at) fs)) (calls_kept P (map (framed_moved at) fs)))
    (task_same P at f (item_at P f.goal))
    ∙ kept_step at f (is_call (task_of P f)) (calls_kept P fs) (calls_kept P (map (framed_moved at) fs)) (calls_moved P at fs)

pub arithmetic_moved : (P : Program) (at : ℕ → ℕ) (fs : List Framed)
    → arithmetic_kept P (map (framed_moved at) fs) ≡ map (framed_moved at) (arithmetic_kept P fs)
arithmetic_moved P at [] = refl
arithmetic_moved P at (f ∷ fs) =
    ap (λ (t : Task). cond (not (is_call t)) (framed_moved at f ∷ arithmetic_kept P (map (framed_moved at) fs))
    (arithmetic_kept P (map (framed_moved at) fs))) (task_same P at f (item_at P f.goal))
    ∙ kept_step at f (not (is_call (task_of P f))) (arithmetic_kept P fs) (arithmetic_kept P (map (framed_moved at) fs)) (arithmetic_moved P at fs)

pub first_moved : (P : Program) (at : ℕ → ℕ) (fs : List Framed)
    → goals_first P (map (framed_moved at) fs) ≡ map (framed_moved at) (goals_first P fs)
first_moved P at fs =
    ap (λ (l : List Framed). l ++ arithmetic_kept P (map (framed_moved at) fs)) (calls_moved P at fs)
    ∙ ap (λ (l : List Framed). map (framed_moved at) (calls_kept P fs) ++ l) (arithmetic_moved P at fs)
    ∙ sym (map-append (framed_moved at) (calls_kept P fs) (arithmetic_kept P fs))

-- Each is a call where the goal is.
pub call_there : (P : Program) (at : ℕ → ℕ) (f : Framed) → IsCall P f → IsCall P (framed_moved at f)
call_there P at f called = ap is_call (task_same P at f (item_at P f.goal)) ∙ called

pub call_here : (P : Program) (at : ℕ → ℕ) (f : Framed) → IsCall P (framed_moved at f) → IsCall P f
call_here P at f called = ap is_call (sym (task_same P at f (item_at P f.goal))) ∙ called

-- Without their paths they are the goals that were moved, and they are the same in the tree.
pub goals_moved : (at : ℕ → ℕ) (fs : List Framed) → map goal_of (map (framed_moved at) fs) ≡ map (goal_moved at) (map goal_of fs)
goals_moved at [] = refl
goals_moved at (f ∷ fs) = ap (λ (l : List Goal). goal_moved at f.goal ∷ l) (goals_moved at fs)

pub trees_stay : (P : NamedProgram) (at : ℕ → ℕ) (fs : List Framed) → map (in_tree P.program) (map (framed_moved at) fs) ≡ map (in_tree P.program) fs
trees_stay P at [] = refl
trees_stay P at (f ∷ fs) = ap (λ (l : List Term). in_tree P.program f ∷ l) (trees_stay P at fs)
