-- The next goal, reduced by a clause.
use Rattle.std.proofs.Common.{ℕ, suc, ◌≡◌, ◌+◌, ◌≤◌, true, false, List, [], ◌∷◌, ◌++◌}
use Rattle.std.proofs.Common.{length, map, append-nil, refl, ap, sym, ◌∙◌, subst, inl, inr, arith, Contains}
use Rattle.std.proofs.lemmas.List.{map-append}
use Rattle.and_model.specs.Terms.{Path, Term}
use Rattle.and_model.specs.Solutions.{Solvable}
use Rattle.and_model.specs.Programs.{Item, call, equal, arithmetic, fail, clause_at, clause_weight, Of}
use Rattle.and_model.specs.Trees.{QueryTree, Open, path, call_of, reduce, weight}
use Rattle.and_model.specs.Reached.{ReachedBy}
use Rattle.and_model.specs.Reductions.{Reduction, CallHas, Makes, one_more}
use Rattle.and_model.specs.Stands.{Framed}
use Rattle.and_model.specs.declared.goal.Goal.{Goal}
use Rattle.and_model.specs.declared.limits.TheConstants.{MAX_LIMIT}
use Rattle.and_laws.proofs.Order.{reduce_weight}
use Rattle.and_cells.specs.Ranges.{NamedProgram}
use Rattle.and_cells.specs.Meaning.{equations_of}
use Rattle.and_branch_laws.specs.OwnVariables.{IsLoaded}
use Rattle.and_branch_laws.specs.Reducing.{reduction_in_cells, reduction_by, goal_at, body_goals}
use Rattle.and_branch_laws.specs.Settling.{widened, Settled}
use Rattle.and_branch_laws.specs.Kept.{item_at, goal_of, IsCall, Kept}
use Rattle.and_branch_laws.proofs.Stepping
use Rattle.and_branch_laws.specs.Goals.{CanBeJudged}
use Rattle.and_branch_parts.specs.Branches.{Held, Lives, IsBranchOf, IsOpenGoal, SameKey}
use Rattle.and_branch_parts.specs.Next.{HasNextCall, IsReduced}
use Rattle.and_branch_parts.specs.Watching.{Watched}
use Rattle.and_branch_parts.proofs.GrownRows.{widened_grows, sleeps_on}
use Rattle.and_branch_parts.proofs.LivingGoals.{Found, found, is_called, path_of, can_be_judged}

-- The goals of a body, without the paths of their frames, are the same in each frame.
pub same_goals : (c n : ℕ) (q r : Path) (i : ℕ) (items : List Item)
    → map goal_of (body_goals c n q i items) ≡ map goal_of (body_goals c n r i items)
same_goals c n q r i [] = refl
same_goals c n q r i (call g ∷ items) = ap (λ (l : List Goal). goal_of (goal_at c n q i) ∷ l) (same_goals c n q r (suc i) items)
same_goals c n q r i (equal a b ∷ items) = same_goals c n q r (suc i) items
same_goals c n q r i (arithmetic a ∷ items) = ap (λ (l : List Goal). goal_of (goal_at c n q i) ∷ l) (same_goals c n q r (suc i) items)
same_goals c n q r i (fail ∷ items) = same_goals c n q r (suc i) items

module _ (P : NamedProgram) (loaded : IsLoaded P) (b new : Held) (t : QueryTree P.program) (lives : Lives P b t) (o : Open t) (g : Goal)
    (rest : List Goal) (next : b.right ≡ g ∷ rest) (is_open : IsOpenGoal P b.reductions t o g) (term : Term)
    (is_call : item_at P.program g ≡ call term) (c : ℕ) (of_it : Of P.program (call_of t o) c)
    (reductions : new.reductions ≡ b.reductions ++ reduction_by g c b.used ∷ [])
    (used : new.used ≡ b.used + clause_weight (clause_at P.program c)) (limit : new.limit ≤ MAX_LIMIT)
    (reached : ReachedBy P.program new.limit new.key (reduce t o c of_it)) where
  abbrev reduced : QueryTree P.program
  reduced = reduce t o c of_it

  the_goal : Found P b t b.left g rest
  the_goal = found P b t b.left g rest lives (ap (λ (l : List Goal). b.left ++ l) next)

  called : IsCall P.program (the_goal).f
  called = is_called P b t b.left g rest the_goal term is_call

  path_is : path t o ≡ (the_goal).f.frame ++ (the_goal).f.goal.item ∷ []
  path_is = path_of P b t b.left g rest the_goal o is_open

  weighs : weight t ≡ b.used
  weighs = let k = lives.keeps in sym k.long ∙ lives.long

  new_weighs : weight reduced ≡ new.used
  new_weighs = let w = weighs in omega (arith, reduce_weight t o c of_it, used)

  made : Makes P.program new.reductions reduced
  made =
      let k = lives.keeps in
      one_more b.reductions [] new.reductions t (reduction_by g c b.used) o of_it
      (subst (λ (l : List Reduction). Makes P.program l t) (sym (append-nil b.reductions)) k.made)
      (subst (λ (l : List Reduction). CallHas l g.node g.item (path t o)) (sym (append-nil b.reductions))
      (is_open.frame, is_open.place, is_open.path_is)) (sym weighs) reductions

  -- Where what the reduction asks has no solution, the tree is dead.
  pub reduced_dies :
      (Solvable (equations_of P (widened b.row (clause_weight (clause_at P.program c))) ++ reduction_in_cells P.program g c
      (length b.row)) → ⊥)
      → new.is_failed ≡ true → IsBranchOf P new reduced
  reduced_dies none_is failed =
      let x = the_goal in
      let dead = Stepping.unsolved_reductions_die P loaded b.reductions b.row x.front x.f x.back t x.keeps called o path_is c of_it
      (subst (λ (h : Goal). Solvable (equations_of P (widened b.row (clause_weight (clause_at P.program c)))
      ++ reduction_in_cells P.program h c (length b.row)) → ⊥) (sym x.goal_is) none_is) in
      record { made = made; reached = reached; bounded = limit; used = new_weighs; state = inl (failed, dead) }

  -- Else the branch keeps the goals of the body in the place of the call.
  pub reduced_lives :
      Settled P (widened b.row (clause_weight (clause_at P.program c))) new.row (reduction_in_cells P.program g c (length b.row))
      → new.is_failed ≡ false → new.left ≡ b.left
      → new.right ≡ map goal_of (body_goals c b.used [] 0 (clause_at P.program c).body) ++ rest
      → ((w : Watched) → Contains new.watches w → Contains b.watches w) → IsBranchOf P new reduced
  reduced_lives settled live left_is right_is watches_are =
      let x = the_goal in
      let grows = widened_grows P b.row new.row (clause_weight (clause_at P.program c)) (reduction_in_cells P.program g c (length b.row)) settled in
      let body : List Item = (clause_at P.program c).body in
      let inner : List Framed = body_goals c (length b.row) (x.f.frame ++ x.f.goal.item ∷ []) 0 body in
      let kept = Stepping.reductions_keep P loaded b.reductions b.row x.front x.f x.back t x.keeps called o path_is c of_it new.row
      (subst (λ (h : Goal). Settled P (widened b.row (clause_weight (clause_at P.program c))) new.row
      (reduction_in_cells P.program h c (length b.row))) (sym x.goal_is) settled) in
      let last : b.reductions ++ reduction_by x.f.goal c (length b.row) ∷ [] ≡ new.reductions =
      ap (λ (h : Goal). b.reductions ++ reduction_by h c (length b.row) ∷ []) x.goal_is
      ∙ ap (λ (n : ℕ). b.reductions ++ reduction_by g c n ∷ []) lives.long ∙ sym reductions in
      let keeps : Kept P new.reductions new.row (x.front ++ (inner ++ x.back)) reduced =
      subst (λ (l : List Reduction). Kept P l new.row (x.front ++ (inner ++ x.back)) reduced) last kept in
      let inner_is : map goal_of inner ≡ map goal_of (body_goals c b.used [] 0 body) =
      ap (λ (n : ℕ). map goal_of (body_goals c n (x.f.frame ++ x.f.goal.item ∷ []) 0 body)) lives.long
      ∙ same_goals c b.used (x.f.frame ++ x.f.goal.item ∷ []) [] 0 body in
      let behind : map goal_of (inner ++ x.back) ≡ new.right =
      map-append goal_of inner x.back ∙ ap (λ (l : List Goal). l ++ map goal_of x.back) inner_is
      ∙ ap (λ (l : List Goal). map goal_of (body_goals c b.used [] 0 body) ++ l) x.back_is ∙ sym right_is in
      let goals : map goal_of (x.front ++ (inner ++ x.back)) ≡ new.left ++ new.right =
      map-append goal_of x.front (inner ++ x.back) ∙ ap (λ (l : List Goal). l ++ map goal_of (inner ++ x.back)) (x.front_is ∙ sym left_is)
      ∙ ap (λ (l : List Goal). new.left ++ l) behind in
      record {
        made = made;
        reached = reached;
        bounded = limit;
        used = new_weighs;
        state = inr (record {
          kept = x.front ++ (inner ++ x.back);
          keeps = keeps;
          goals = goals;
          long = keeps.long
              ∙ new_weighs;
          live = live;
          asleep = λ w h. sleeps_on P b.row new.row w grows (lives.asleep w (watches_are w h));
        });
      }

-- ---- The next call of a branch

-- the goal that was taken out is the next one
pub next_is : (all : List Goal) (goal g : Goal) (back rest : List Goal) → all ≡ goal ∷ back → all ≡ g ∷ rest → goal ≡ g
next_is all goal g back rest e f = let same : goal ∷ back ≡ g ∷ rest = sym e ∙ f in cc

pub call_is : (P : NamedProgram) (b : Held) (c : ℕ) (goal : Goal) (back : List Goal) (x : HasNextCall P b c) → b.right ≡ goal ∷ back
    → item_at P.program goal ≡ call x.term
call_is P b c goal back x e =
    let same : goal ≡ x.goal = next_is b.right goal x.goal back x.rest e x.next in
    ap (λ (h : Goal). item_at P.program h) same ∙ x.is_call

pub next_judged : (P : NamedProgram) → IsLoaded P → (b : Held) (c : ℕ) (goal : Goal) (back : List Goal) → HasNextCall P b c
    → b.right ≡ goal ∷ back → CanBeJudged P b.row goal
next_judged P loaded b c goal back x e =
    can_be_judged P b x.tree b.left goal back
    (found P b x.tree b.left goal back x.lives (ap (λ (l : List Goal). b.left ++ l) e)) loaded x.term (call_is P b c goal back x e)

module _ (P : NamedProgram) (loaded : IsLoaded P) (old b new : Held) (is : b ≡ old) (c : ℕ) (goal : Goal) (back : List Goal)
    (x : HasNextCall P b c) (e : b.right ≡ goal ∷ back) (same : SameKey b new)
    (reductions : new.reductions ≡ b.reductions ++ reduction_by goal c b.used ∷ [])
    (used : new.used ≡ b.used + clause_weight (clause_at P.program c)) where
  bounded : b.limit ≤ MAX_LIMIT → new.limit ≤ MAX_LIMIT
  bounded l = let s = same.limit in omega arith

  opened : (t : QueryTree P.program) (o : Open t) (g : Goal) (rest : List Goal) → b.right ≡ g ∷ rest → IsOpenGoal P b.reductions t o g
      → IsOpenGoal P b.reductions t o goal
  opened t o g rest next is_open =
      let there : goal ≡ g = next_is b.right goal g back rest e next in
      subst (λ (h : Goal). IsOpenGoal P b.reductions t o h) (sym there) is_open

  pub next_lives :
      Settled P (widened b.row (clause_weight (clause_at P.program c))) new.row (reduction_in_cells P.program goal c (length b.row))
      → new.is_failed ≡ b.is_failed → new.left ≡ b.left
      → new.right ≡ map goal_of (body_goals c b.used [] 0 (clause_at P.program c).body) ++ back
      → ((w : Watched) → Contains new.watches w → Contains b.watches w) → IsReduced P old new c
  next_lives settled live left_is right_is watches_are =
      subst (λ (h : Held). IsReduced P h new c) is
      (record {
        stands = λ t o g rest of_it lives limit next is_open reached.
            reduced_lives P loaded b new t lives o goal back e (opened t o g rest next is_open) x.term (call_is P b c goal back x e) c of_it
            reductions used (bounded limit) reached settled (live ∙ lives.live) left_is right_is watches_are;
      })

  pub next_dies :
      (Solvable (equations_of P (widened b.row (clause_weight (clause_at P.program c))) ++ reduction_in_cells P.program goal c
      (length b.row)) → ⊥)
      → new.is_failed ≡ true → IsReduced P old new c
  next_dies none_is failed =
      subst (λ (h : Held). IsReduced P h new c) is
      (record {
        stands = λ t o g rest of_it lives limit next is_open reached.
            reduced_dies P loaded b new t lives o goal back e (opened t o g rest next is_open) x.term (call_is P b c goal back x e) c of_it
            reductions used (bounded limit) reached none_is failed;
      })
