-- What a branch stands for.
use Rattle.std.proofs.Common.{◌≡◌, Bool, true, false, not, cond, List, [], ◌∷◌, map, filter, refl, ap, ◌∙◌, inl, inr}
use Rattle.and_model.specs.Programs.{Program, Item, call, equal, arithmetic, fail}
use Rattle.and_model.specs.Trees.{QueryTree}
use Rattle.and_model.specs.Stands.{Framed}
use Rattle.and_model.specs.declared.goal.Goal.{Goal}
use Rattle.and_cells.specs.Ranges.{NamedProgram}
use Rattle.and_branch_laws.specs.OwnVariables.{IsLoaded}
use Rattle.and_branch_laws.specs.Kept.{item_at, task_in, task_of, is_call, goal_of, KeptIn}
use Rattle.and_branch_laws.specs.Views.{StandsIn}
use Rattle.and_branch_laws.proofs.Going
use Rattle.and_branch_parts.specs.Branches.{Held, Lives, IsBranchOf, is_arithmetic, calls_of, arithmetic_of, view_of}

-- the items of kept goals tell which are calls
same_call : (P : Program) (f : Framed) (i : Item) → is_call (task_in P f i) ≡ not (is_arithmetic i)
same_call P f (call g) = refl
same_call P f (equal a b) = refl
same_call P f (arithmetic a) = refl
same_call P f fail = refl

same_arithmetic : (P : Program) (f : Framed) (i : Item) → not (is_call (task_in P f i)) ≡ is_arithmetic i
same_arithmetic P f (call g) = refl
same_arithmetic P f (equal a b) = refl
same_arithmetic P f (arithmetic a) = refl
same_arithmetic P f fail = refl

one_more : (f : Framed) (b : Bool) (kept : List Framed) (gs : List Goal) → map goal_of kept ≡ gs
    → map goal_of (cond b (f ∷ kept) kept) ≡ cond b (f.goal ∷ gs) gs
one_more f true kept gs e = ap (λ (l : List Goal). f.goal ∷ l) e
one_more f false kept gs e = e

sorted : (p : Framed → Bool) (q : Goal → Bool) → ((f : Framed) → p f ≡ q f.goal) → (kept : List Framed)
    → map goal_of (filter p kept) ≡ filter q (map goal_of kept)
sorted p q h [] = refl
sorted p q h (f ∷ kept) =
    one_more f (p f) (filter p kept) (filter q (map goal_of kept)) (sorted p q h kept)
    ∙ ap (λ (b : Bool). cond b (f.goal ∷ filter q (map goal_of kept)) (filter q (map goal_of kept))) (h f)

kept_in : (P : NamedProgram) (b : Held) (t : QueryTree P.program) → Lives P b t → KeptIn P (view_of P b) t
kept_in P b t lives = record {
  kept = lives.kept;
  keeps = lives.keeps;
  goals = sorted (λ (f : Framed). is_call (task_of P.program f)) (λ (g : Goal). not (is_arithmetic (item_at P.program g)))
      (λ f. same_call P.program f (item_at P.program f.goal)) lives.kept ∙ ap (calls_of P) lives.goals;
  waiting = sorted (λ (f : Framed). not (is_call (task_of P.program f))) (λ (g : Goal). is_arithmetic (item_at P.program g))
      (λ f. same_arithmetic P.program f (item_at P.program f.goal)) lives.kept ∙ ap (arithmetic_of P) lives.goals;
  used = lives.long;
  live = lives.live;
}

pub branch_stands : (P : NamedProgram) → IsLoaded P → (b : Held) (t : QueryTree P.program) → IsBranchOf P b t
    → StandsIn (view_of P b) b.key P b.limit
branch_stands P loaded b t x = elim x.state [
  | inl dead ↦ Going.failed_branches_stand P b.limit b.key (view_of P b) t x.made x.reached dead.1 x.used refl refl dead.0
  | inr lives ↦ Going.kept_branches_stand P loaded b.limit b.key (view_of P b) t (kept_in P b t lives) x.reached refl refl
]
