-- The goals that a phase leaves, as tasks of the tree.
use Rattle.std.proofs.Common.{ℕ, suc, ◌≡◌, ◌≤◌, inl, inr, List, [], ◌∷◌, ◌++◌, map, get_or, refl, ap, sym, ◌∙◌, subst, arith, Contains}
use Rattle.std.specs.Prelude.{All}
use Rattle.std.proofs.lemmas.List.{map-append}
use Rattle.std.proofs.lemmas.List.Elements.{All-nil, All-cons, All-head, All-tail, All-append, Contains-append_cases}
use Rattle.and_model.specs.Terms.{Path, Term}
use Rattle.and_model.specs.Programs.{Program, Item, call, equal, arithmetic, fail, Arithmetic, arithmetic_in, clause_at}
use Rattle.and_model.specs.Trees.{QueryTree, weight}
use Rattle.and_model.specs.Reductions.{Reduction, PlaceHas, CallHas, reduced, Makes}
use Rattle.and_model.specs.Stands.{Framed, IsFramed, in_tree}
use Rattle.and_model.specs.declared.goal.Goal.{Goal}
use Rattle.and_laws.specs.Paths.{At}
use Rattle.and_laws.proofs.Ordered.{contains_first, contains_more}
use Rattle.and_laws.proofs.Placing.{Writes, made_writes, writes_made, node_bounds, parent_below}
use Rattle.and_phase_laws.proofs.Places.{made_once, calls_own}
use Rattle.and_branch_laws.specs.Tasks.{Task, take, run, body_tasks}
use Rattle.and_branch_laws.specs.Kept.{item_at, task_in, task_of, goal_of}
use Rattle.and_branch_laws.specs.Reducing.{goal_at, body_goals}
use Rattle.and_branch_laws.proofs.BodyGoals.{body_goals_all, body_goals_tasks}
use Rattle.and_worker_laws.specs.Leaving.{Leaves}
use Rattle.and_worker_laws.specs.Acts.{goals_of_body}
use Rattle.and_worker_laws.specs.Unfolding.{Unfolds}
use Rattle.and_worker_laws.proofs.Shuffling.{Pairwise}
use Rattle.and_worker_laws.proofs.Expanding.{Expands, first_cases, none_expand}
use Rattle.and_worker_laws.proofs.Running.{IsArithmeticAs}

-- The goal is a call or the like, whose path is that of its frame and its item.
abbrev place_in : Task → Path
place_in (take q g) = q
place_in (run a) = []

item_path : (P : Program) (f : Framed) (i : Item) (q : Path) (g : Term) → task_in P f i ≡ take q g → q ≡ f.frame ++ f.goal.item ∷ []
item_path P f (call h) q g e = sym (ap place_in e)
item_path P f (equal a b) q g e = sym (ap place_in e)
item_path P f (arithmetic a) q g e = absurd (cc)
item_path P f fail q g e = sym (ap place_in e)

task_path : (P : Program) (f : Framed) (q : Path) (g : Term) → task_of P f ≡ take q g → q ≡ f.frame ++ f.goal.item ∷ []
task_path P f q g e = item_path P f (item_at P f.goal) q g e

call_task : (P : Program) (f : Framed) (g : Term) → item_at P f.goal ≡ call g → task_of P f ≡ take (f.frame ++ f.goal.item ∷ []) (in_tree P f)
call_task P f g e = ap (λ (i : Item). task_in P f i) e

arithmetic_task : (P : Program) (f : Framed) (a : Arithmetic) → item_at P f.goal ≡ arithmetic a → task_of P f ≡ run (arithmetic_in f.frame a)
arithmetic_task P f a e = ap (λ (i : Item). task_in P f i) e

-- The goals of a body, whatever the path of its frame.
body_goals_same : (c n : ℕ) (q p : Path) (i : ℕ) (items : List Item) → map goal_of (body_goals c n q i items) ≡ map goal_of (body_goals c n p i items)
body_goals_same c n q p i [] = refl
body_goals_same c n q p i (call g ∷ items) = ap (λ (l : List Goal). goal_of (goal_at c n p i) ∷ l) (body_goals_same c n q p (suc i) items)
body_goals_same c n q p i (equal a b ∷ items) = body_goals_same c n q p (suc i) items
body_goals_same c n q p i (arithmetic a ∷ items) = ap (λ (l : List Goal). goal_of (goal_at c n p i) ∷ l) (body_goals_same c n q p (suc i) items)
body_goals_same c n q p i (fail ∷ items) = body_goals_same c n q p (suc i) items

-- The reduction takes the goal, a call, and its frame is none of the opening's tree.
pub record Takes (P : Program) (all : List Reduction) (used : ℕ) (g : Goal) (r : Reduction) : Type 0 where
  pub made : Contains all r
  pub parent : r.parent ≡ g.node
  pub item : r.item ≡ g.item
  pub term : Term
  pub is_call : item_at P g ≡ call term
  pub node : used ≤ r.node

-- No reduction of the list takes the goal.
abbrev pub NoneTakes : List Reduction → Goal → Type 0
NoneTakes rs g = (x : Reduction) → Contains rs x → x.parent ≡ g.node → x.item ≡ g.item → ⊥

-- The goal stands at a place of the tree that is written down, and it is none of those that were taken before the phase.
pub record Lies (P : Program) (old all : List Reduction) (f : Framed) : Type 0 where
  pub framed : IsFramed all f
  pub based : f.goal.base ≡ f.goal.node
  pub open_then : (q : Path) (g : Term) → task_of P f ≡ take q g → NoneTakes old f.goal

-- What is left of goals, as tasks of the tree.
pub record Resolved (P : Program) (old all : List Reduction) (left ran : List Goal) (us : List Task) : Type 0 where
  pub rest : List Framed
  pub goals : map goal_of rest ≡ left
  pub gone : List Arithmetic
  pub leaves : Leaves us gone (map (task_of P) rest)
  pub were_run : Pairwise (IsArithmeticAs P all) ran gone
  pub lie : All (Lies P old all) rest

module _ (P : Program) (old news : List Reduction) (t u : QueryTree P) (was_made : Makes P old t) (made : Makes P (old ++ news) u) where
  abbrev all : List Reduction
  all = old ++ news

  -- A clause at the path of a goal is that of a reduction which takes it.
  taken_by : (f : Framed) → Lies P old all f → (q : Path) (g : Term) → task_of P f ≡ take q g → (c : ℕ) → At u q c
      → (x : Reduction) × Contains all x × (c ≡ x.clause) × (x.parent ≡ f.goal.node) × (x.item ≡ f.goal.item)
  taken_by f l q g e c a =
      let (x, h, same, has) = made_writes P all u made q c a in
      let own : CallHas all f.goal.node f.goal.item q = (f.frame, l.framed.0, task_path P f q g e) in
      let both = calls_own all (made_once P all u made) x.parent f.goal.node x.item f.goal.item q has own in
      (x, h, same, both.0, both.1)

  -- A goal that none of the phase's reductions took stays.
  not_taken : (f : Framed) → Lies P old all f → NoneTakes news f.goal → (q : Path) (g : Term) → task_of P f ≡ take q g → (c : ℕ) → At u q c → ⊥
  not_taken f l none_takes q g e c a =
      let (x, h, same, p, i) = taken_by f l q g e c a in
      elim (Contains-append_cases old news x h) [ inl k ↦ l.open_then q g e x k p i | inr k ↦ none_takes x k p i ]

  -- The clause of a reduction stands at the path of the goal that it takes,
  was_taken : (f : Framed) → Lies P old all f → (r : Reduction) → Takes P all (weight t) f.goal r → (q : Path) → q ≡ f.frame ++ f.goal.item ∷ []
      → At u q r.clause
  was_taken f l r k q e =
      let place : PlaceHas all r.parent f.frame = subst (λ n. PlaceHas all n f.frame) (sym k.parent) l.framed.0 in
      let writes : Writes all q r.clause = (r, k.made, refl, (f.frame, place, e ∙ ap (λ n. f.frame ++ n ∷ []) (sym k.item))) in
      writes_made P all u made q r.clause writes

  -- and no other one.
  same_clause : (f : Framed) → Lies P old all f → (r : Reduction) → Takes P all (weight t) f.goal r → (q : Path) (g : Term) → task_of P f ≡ take q g
      → (c : ℕ) → At u q c → c ≡ r.clause
  same_clause f l r k q g e c a =
      let (x, h, same, p, i) = taken_by f l q g e c a in
      let one : x ≡ r = made_once P all u made x r h k.made (p ∙ sym k.parent) (i ∙ sym k.item) in
      same ∙ ap (λ (y : Reduction). y.clause) one

  -- The goals of its body stand in the tree.
  body_lies : (f : Framed) → Lies P old all f → (r : Reduction) → Takes P all (weight t) f.goal r → (q : Path) → q ≡ f.frame ++ f.goal.item ∷ []
      → (i : ℕ) → Lies P old all (goal_at r.clause r.node q i)
  body_lies f l r k q e i =
      let place : PlaceHas all r.parent f.frame = subst (λ n. PlaceHas all n f.frame) (sym k.parent) l.framed.0 in
      let here : PlaceHas all r.node q =
      subst (λ p. PlaceHas all r.node p) (ap (λ n. f.frame ++ n ∷ []) k.item ∙ sym e) (reduced r f.frame k.made place) in
      let later : weight t ≤ r.node = k.node in
      record {
        framed = (here, inr (r, k.made, refl, refl));
        based = refl;
        open_then = λ p g is_take x h same j.
            let below = parent_below P old t was_made x h in
            let bound = (node_bounds P old t was_made x h).1 in
            omega (arith, below, bound, later, same);
      }

  -- Goals that unfold are tasks that expand: those that are left are left of the expanded tasks when the arithmetic that was run is gone.
  pub resolve : (fs : List Framed) (goals left ran : List Goal) (taken : List (Goal × Reduction)) → Unfolds P goals left ran taken → map goal_of fs ≡ goals
      → (us : List Task) → Expands P (At u) (map (task_of P) fs) us → All (Lies P old all) fs
      → ((g : Goal) → Contains left g → NoneTakes news g) → ((g : Goal) → Contains ran g → (a : Arithmetic) × (item_at P g ≡ arithmetic a))
      → ((g : Goal) (r : Reduction) → Contains taken (g, r) → Takes P all (weight t) g r) → Resolved P old all left ran us
  resolve [] goals left ran taken Unfolds.over e us x lie stay run_it take_it =
      record {
        rest = [];
        goals = refl;
        gone = [];
        leaves = subst (λ l. Leaves l [] []) (sym (none_expand P (At u) us x)) Leaves.over;
        were_run = tt;
        lie = All-nil (Lies P old all);
      }
  resolve (f ∷ fs) goals left ran taken Unfolds.over e us x lie stay run_it take_it = absurd (cc)
  resolve [] goals left ran taken (Unfolds.stays g gs ls rs ts n) e us x lie stay run_it take_it = absurd (cc)
  resolve [] goals left ran taken (Unfolds.runs g gs ls rs ts n) e us x lie stay run_it take_it = absurd (cc)
  resolve [] goals left ran taken (Unfolds.reduces g r gs ls rs ts n) e us x lie stay run_it take_it = absurd (cc)
  resolve (f ∷ fs) goals left ran taken (Unfolds.stays g gs ls rs ts n) e us x lie stay run_it take_it =
      let same : f.goal ≡ g = cc in
      let others : map goal_of fs ≡ gs = cc in
      let here : Lies P old all f = All-head (Lies P old all) f fs lie in
      let there : All (Lies P old all) fs = All-tail (Lies P old all) f fs lie in
      let free : NoneTakes news f.goal = subst (λ h. NoneTakes news h) (sym same) (stay g (contains_first g ls)) in
      elim (first_cases P (At u) (task_of P f) (map (task_of P) fs) us x) [
        | inl s ↦
            let r : Resolved P old all ls rs s.others =
            resolve fs gs ls rs ts n others s.others s.more there (λ h i. stay h (contains_more g h ls i)) run_it take_it in
            record {
              rest = f ∷ r.rest;
              goals = ap (λ h. h ∷ map goal_of r.rest) same ∙ ap (λ l. g ∷ l) r.goals;
              gone = r.gone;
              leaves = subst (λ l. Leaves l r.gone (map (task_of P) (f ∷ r.rest))) (sym s.is)
                  (Leaves.stays (task_of P f) s.others r.gone (map (task_of P) r.rest) r.leaves);
              were_run = r.were_run;
              lie = All-cons (Lies P old all) f r.rest here r.lie;
            }
        | inr k ↦ absurd (not_taken f here free k.path k.goal k.is k.clause k.by)
      ]
  resolve (f ∷ fs) goals left ran taken (Unfolds.runs g gs ls rs ts n) e us x lie stay run_it take_it =
      let same : f.goal ≡ g = cc in
      let others : map goal_of fs ≡ gs = cc in
      let here : Lies P old all f = All-head (Lies P old all) f fs lie in
      let there : All (Lies P old all) fs = All-tail (Lies P old all) f fs lie in
      let (a, item) = run_it g (contains_first g rs) in
      let task : task_of P f ≡ run (arithmetic_in f.frame a) = arithmetic_task P f a (ap (λ h. item_at P h) same ∙ item) in
      elim (first_cases P (At u) (task_of P f) (map (task_of P) fs) us x) [
        | inl s ↦
            let r : Resolved P old all ls rs s.others =
            resolve fs gs ls rs ts n others s.others s.more there stay (λ h i. run_it h (contains_more g h rs i)) take_it in
            let b : Arithmetic = arithmetic_in f.frame a in
            record {
              rest = r.rest;
              goals = r.goals;
              gone = b ∷ r.gone;
              leaves = subst (λ l. Leaves l (b ∷ r.gone) (map (task_of P) r.rest)) (sym (s.is ∙ ap (λ z. z ∷ s.others) task))
                  (Leaves.goes b s.others r.gone (map (task_of P) r.rest) r.leaves);
              were_run = (
                record {
                  path = f.frame;
                  place = subst (λ (h : Goal). PlaceHas all h.node f.frame) same here.framed.0;
                  what = a;
                  is_arithmetic = item;
                  is = refl;
                },
                r.were_run,
              );
              lie = r.lie;
            }
        | inr k ↦ absurd (no_take (arithmetic_in f.frame a) k.path k.goal (sym task ∙ k.is))
      ]
    where
      no_take : (b : Arithmetic) (q : Path) (h : Term) → run b ≡ take q h → ⊥
      no_take b q h i = cc
  resolve (f ∷ fs) goals left ran taken (Unfolds.reduces g r gs ls rs ts n) e us x lie stay run_it take_it =
      let same : f.goal ≡ g = cc in
      let others : map goal_of fs ≡ gs = cc in
      let here : Lies P old all f = All-head (Lies P old all) f fs lie in
      let there : All (Lies P old all) fs = All-tail (Lies P old all) f fs lie in
      let takes : Takes P all (weight t) f.goal r = subst (λ h. Takes P all (weight t) h r) (sym same) (take_it g r (contains_first (g, r) ts)) in
      let q : Path = f.frame ++ f.goal.item ∷ [] in
      elim (first_cases P (At u) (task_of P f) (map (task_of P) fs) us x) [
        | inl s ↦ absurd (s.free q (in_tree P f) (call_task P f takes.term takes.is_call) r.clause (was_taken f here r takes q refl))
        | inr k ↦
            let at_path : k.path ≡ q = task_path P f k.path k.goal k.is in
            let clause : k.clause ≡ r.clause = same_clause f here r takes k.path k.goal k.is k.clause k.by in
            let items : List Item = (clause_at P r.clause).body in
            let body : List Framed = body_goals r.clause r.node q 0 items in
            let body_is : map (task_of P) body ≡ body_tasks q 0 items =
            body_goals_tasks P r.clause r.node q 0 items (λ j. ap (λ m. get_or items m fail) (omega arith)) in
            let tasks_are : body_tasks k.path 0 (clause_at P k.clause).body ++ map (task_of P) fs ≡ map (task_of P) (body ++ fs) =
            ap (λ p. body_tasks p 0 (clause_at P k.clause).body ++ map (task_of P) fs) at_path
            ∙ ap (λ c. body_tasks q 0 (clause_at P c).body ++ map (task_of P) fs) clause
            ∙ ap (λ l. l ++ map (task_of P) fs) (sym body_is)
            ∙ sym (map-append (task_of P) body fs) in
            let goals_are : map goal_of (body ++ fs) ≡ goals_of_body P r ++ gs =
            map-append goal_of body fs
            ∙ ap (λ l. l ++ map goal_of fs) (body_goals_same r.clause r.node q [] 0 items)
            ∙ ap (λ l. goals_of_body P r ++ l) others in
            let lie_too : All (Lies P old all) body =
            body_goals_all (Lies P old all) r.clause r.node q 0 items (λ j l m. body_lies f here r takes q refl j) in
            resolve (body ++ fs) (goals_of_body P r ++ gs) ls rs ts n goals_are us (subst (λ l. Expands P (At u) l us) tasks_are k.more)
            (All-append (Lies P old all) body fs lie_too there) stay run_it (λ h s i. take_it h s (contains_more (g, r) (h, s) ts i))
      ]
