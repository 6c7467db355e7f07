-- The steps of an unfolding.
use Rattle.std.proofs.Common.{ℕ, suc, ◌≡◌, ◌+◌, ◌≤◌, ◌⊎◌, true, false, true≢false, Bool, List, [], ◌∷◌, ◌++◌, append_assoc, length, map}
use Rattle.std.proofs.Common.{reverse, replicate, get_or, cond, refl, ap, sym, ◌∙◌, subst, inl, inr, arith, Contains}
use Rattle.std.specs.Prelude.{All}
use Rattle.std.proofs.lemmas.List.{map-append, reverse-append, reverse-reverse}
use Rattle.std.proofs.lemmas.List.Elements.{All-nil, All-cons, All-head, All-tail, All-contains, Contains-append_right}
use Rattle.std.proofs.lemmas.List.Elements.{Contains-append_cases}
use Rattle.and_model.specs.Terms.{Path, Term}
use Rattle.and_model.specs.Solutions.{Solvable}
use Rattle.and_model.specs.Programs.{Program, Item, call, equal, arithmetic, fail, Arithmetic, clause_at, clause_weight}
use Rattle.and_model.specs.Trees.{QueryTree, query_agenda, blank, weight}
use Rattle.and_model.specs.Stands.{Framed}
use Rattle.and_model.specs.declared.goal.Goal.{Goal}
use Rattle.and_model.specs.declared.limits.TheConstants.{MAX_LIMIT}
use Rattle.and_model.specs.declared.reference.Ref.{Ref}
use Rattle.and_model.specs.declared.reference.Ref.TheVariants.{Free}
use Rattle.and_laws.proofs.Equality.{bool_cases}
use Rattle.and_laws.proofs.Keeping
use Rattle.and_laws.proofs.Order.{blank_below, blank_weighs}
use Rattle.and_laws.proofs.Ordered.{contains_first, contains_more, contains_cases, contains_none}
use Rattle.and_cells.specs.Ranges.{NamedProgram, IsGoalInRange}
use Rattle.and_cells.specs.Meaning.{equations_of}
use Rattle.and_branch_laws.specs.OwnVariables.{IsLoaded}
use Rattle.and_branch_laws.specs.Variables.{placed}
use Rattle.and_branch_laws.specs.Reducing.{body_equations, goal_at, body_goals}
use Rattle.and_branch_laws.specs.Settling.{Settled}
use Rattle.and_branch_laws.specs.Judging.{NoCall}
use Rattle.and_branch_laws.specs.Kept.{item_at, task_in, task_of, is_call, IsCall, calls_kept, goal_of, Kept}
use Rattle.and_branch_laws.proofs.Rooting
use Rattle.and_branch_laws.proofs.BodyGoals.{shift, here_is}
use Rattle.and_proof.specs.Proofs.{all_replaced, HasProof}
use Rattle.and_proof.specs.Stacks.{at_depth}
use Rattle.and_proof.specs.Unfolding.{ahead_of, IsGoal, AreTaken, IsUnfolding, IsAtCall}
use Rattle.and_proof.specs.declared.goals.Ahead.{Ahead}
use Rattle.and_proof.specs.declared.goals.Goals.{Goals}
use Rattle.and_proof.proofs.Extending.{blank_replaced}
use Rattle.and_proof.proofs.Stacked.{depths_are}

-- ---- Lists

-- what a map makes of a first element
pub record FirstOf {X Y : Type 0} (f : X → Y) (xs : List X) (y : Y) (ys : List Y) : Type 0 where
  pub first : X
  pub rest : List X
  pub is : xs ≡ first ∷ rest
  pub first_is : f first ≡ y
  pub rest_is : map f rest ≡ ys

pub first_of : {X Y : Type 0} (f : X → Y) (xs : List X) (y : Y) (ys : List Y) → map f xs ≡ y ∷ ys → FirstOf f xs y ys
first_of f [] y ys e = absurd (cc)
first_of f (x ∷ xs) y ys e = let one : f x ≡ y = cc in let others : map f xs ≡ ys = cc in
    record { first = x; rest = xs; is = refl; first_is = one; rest_is = others }

pub none_of : {X Y : Type 0} (f : X → Y) (xs : List X) → map f xs ≡ [] → xs ≡ []
none_of f [] e = refl
none_of f (x ∷ xs) e = absurd (cc)

pub reverse_last : {X : Type 0} (xs : List X) (x : X) → reverse (xs ++ x ∷ []) ≡ x ∷ reverse xs
reverse_last xs x = reverse-append xs (x ∷ [])

-- ---- What kept goals are

-- a goal that is no call is arithmetic
by_item : (P : Program) (f : Framed) (i : Item) → (is_call (task_in P f i) ≡ true → ⊥) → (a : Arithmetic) × (i ≡ arithmetic a)
by_item P f (call g) n = absurd (n refl)
by_item P f (equal a b) n = absurd (n refl)
by_item P f (arithmetic a) n = (a, refl)
by_item P f fail n = absurd (n refl)

pub is_arithmetic : (P : Program) (f : Framed) → (IsCall P f → ⊥) → (a : Arithmetic) × (item_at P f.goal ≡ arithmetic a)
is_arithmetic P f n = by_item P f (item_at P f.goal) n

pub called : (P : Program) (f : Framed) (t : Term) → item_at P f.goal ≡ call t → IsCall P f
called P f t e = ap (λ (i : Item). is_call (task_in P f i)) e

not_called : (P : Program) (f : Framed) (a : Arithmetic) → item_at P f.goal ≡ arithmetic a → IsCall P f → ⊥
not_called P f a e c = true≢false (sym c ∙ ap (λ (i : Item). is_call (task_in P f i)) e)

kept_step : (P : Program) (f : Framed) (kept : List Framed) (b : Bool) → is_call (task_of P f) ≡ b
    → calls_kept P (f ∷ kept) ≡ cond b (f ∷ calls_kept P kept) (calls_kept P kept)
kept_step P f kept b e = ap (λ (x : Bool). cond x (f ∷ calls_kept P kept) (calls_kept P kept)) e

-- where the first goals are no calls, the calls begin behind them
pub calls_behind : (P : NamedProgram) (front back : List Framed) → NoCall P front → calls_kept P.program (front ++ back) ≡ calls_kept P.program back
calls_behind P [] back n = refl
calls_behind P (f ∷ front) back n = elim (bool_cases (is_call (task_of P.program f))) [
  | inl e ↦ absurd (n f (contains_first f front) e)
  | inr e ↦ kept_step P.program f (front ++ back) false e ∙ calls_behind P front back (λ g i. n g (contains_more f g front i))
]

-- The items of a body that are goals are calls and arithmetic.
body_kinds : (P : NamedProgram) (c n : ℕ) (q : Path) (i : ℕ) (items : List Item)
    → ((j : ℕ) → get_or (clause_at P.program c).body (i + j) fail ≡ get_or items j fail) → All (IsGoal P) (body_goals c n q i items)
body_kinds P c n q i [] h = All-nil (IsGoal P)
body_kinds P c n q i (call g ∷ items) h = All-cons (IsGoal P) (goal_at c n q i) (body_goals c n q (suc i) items)
    (inl (g, here_is (clause_at P.program c).body items i (call g) h))
    (body_kinds P c n q (suc i) items (shift (clause_at P.program c).body items i (call g) h))
body_kinds P c n q i (equal a b ∷ items) h = body_kinds P c n q (suc i) items (shift (clause_at P.program c).body items i (equal a b) h)
body_kinds P c n q i (arithmetic a ∷ items) h = All-cons (IsGoal P) (goal_at c n q i) (body_goals c n q (suc i) items)
    (inr (a, here_is (clause_at P.program c).body items i (arithmetic a) h))
    (body_kinds P c n q (suc i) items (shift (clause_at P.program c).body items i (arithmetic a) h))
body_kinds P c n q i (fail ∷ items) h = body_kinds P c n q (suc i) items (shift (clause_at P.program c).body items i fail h)

pub all_kinds : (P : NamedProgram) (c n : ℕ) (q : Path) → All (IsGoal P) (body_goals c n q 0 (clause_at P.program c).body)
all_kinds P c n q = body_kinds P c n q 0 (clause_at P.program c).body
    (λ j. let e : 0 + j ≡ j = omega arith in ap (λ (k : ℕ). get_or (clause_at P.program c).body k fail) e)

-- ---- The beginning

module _ (P : NamedProgram) (loaded : IsLoaded P) where
  abbrev root : QueryTree P.program
  root = blank (query_agenda P.program)

  weighs : weight root ≡ clause_weight P.program.query
  weighs = let e = blank_weighs P.program (query_agenda P.program) in omega (arith, e)

  pub begun : (row : List Ref) (goals : Goals) → clause_weight P.program.query ≤ MAX_LIMIT
      → Settled P (replicate (clause_weight P.program.query) Free) row (body_equations (placed 0) P.program.query.body)
      → goals.ahead.items ≡ reverse (map (at_depth 1) (body_goals 0 0 [] 0 P.program.query.body)) → goals.passed.items ≡ []
      → goals.taken.items ≡ [] → IsUnfolding P row goals []
  begun row goals fits settled ahead passed taken =
      let body : List Framed = body_goals 0 0 [] 0 P.program.query.body in
      let kept : Kept P [] row body root = Rooting.root_kept P loaded row settled in
      let on : map ahead_of body ≡ reverse goals.ahead.items =
      depths_are 0 0 [] 0 P.program.query.body ∙ sym (reverse-reverse (map (at_depth 1) body)) ∙ ap reverse (sym ahead) in
      let none_yet : AreTaken P [] (length row) goals.taken.items (all_replaced root) =
      subst (λ es. AreTaken P [] (length row) es (all_replaced root)) (sym taken)
      (subst (λ rs. AreTaken P [] (length row) [] rs) (sym (blank_replaced P.program (query_agenda P.program))) tt) in
      record {
        tree = root;
        unfolds = refl;
        reductions = [];
        front = [];
        back = body;
        keeps = kept;
        passed = sym passed;
        no_call = λ f i. absurd (contains_none f i);
        kinds = all_kinds P 0 0 [];
        ahead = on;
        taken = none_yet;
        short = let w = weighs in let l = kept.long in omega (arith, w, l, fits);
      }

  pub begun_dead :
      (Solvable (equations_of P (replicate (clause_weight P.program.query) Free) ++ body_equations (placed 0) P.program.query.body) → ⊥)
      → (cs : List ℕ) → HasProof P.program cs → ⊥
  begun_dead none_is cs (u, unfolds, outcome, fits) =
      Keeping.dead_has_none root u (blank_below u) outcome (Rooting.unsolved_root_is_dead P loaded none_is)

-- ---- Goals on a stack

-- Goals that are the same are those of the same unfolding.
pub same_goals : (P : NamedProgram) (row : List Ref) (old new : Goals) (cs : List ℕ) → new.ahead.items ≡ old.ahead.items
    → new.passed.items ≡ old.passed.items → new.taken.items ≡ old.taken.items → IsUnfolding P row old cs → IsUnfolding P row new cs
same_goals P row old new cs ahead passed taken x = record {
  tree = x.tree;
  unfolds = x.unfolds;
  reductions = x.reductions;
  front = x.front;
  back = x.back;
  keeps = x.keeps;
  passed = x.passed ∙ sym passed;
  no_call = x.no_call;
  kinds = x.kinds;
  ahead = x.ahead ∙ ap reverse (sym ahead);
  taken = subst (λ es. AreTaken P x.reductions (length row) es (all_replaced x.tree)) (sym taken) x.taken;
  short = x.short;
}

first_same : {X : Type 0} (x y : X) (xs ys : List X) → x ∷ xs ≡ y ∷ ys → x ≡ y
first_same x y xs ys e = cc

pub last_same : {X : Type 0} (xs ys : List X) (x y : X) → xs ++ x ∷ [] ≡ ys ++ y ∷ [] → x ≡ y
last_same xs ys x y e = first_same x y (reverse xs) (reverse ys) (sym (reverse_last xs x) ∙ ap reverse e ∙ reverse_last ys y)

pub none_last : {X : Type 0} (xs : List X) (x : X) → xs ++ x ∷ [] ≡ [] → ⊥
none_last [] x e = cc
none_last (y ∷ ys) x e = cc

pub none_there : {X : Type 0} (xs : List X) → length xs ≡ 0 → xs ≡ []
none_there [] e = refl
none_there (x ∷ xs) e = absurd (omega (arith, e))

-- The goal that is taken off where the next one is a call is that call.
pub next_called : (P : NamedProgram) (goals : Goals) (rest : List Ahead) (next : Ahead) → IsAtCall P goals → goals.ahead.items ≡ rest ++ next ∷ []
    → (term : Term) × (item_at P.program next.goal ≡ call term)
next_called P goals rest next at ahead = elim at [
  | inl none_is ↦ absurd (none_last rest next (sym ahead ∙ none_is))
  | inr other ↦
      let (behind, last, term, is, item) = other in
      let same : last ≡ next = last_same behind rest last next (sym is ∙ ahead) in
      (term, ap (λ (a : Ahead). item_at P.program a.goal) (sym same) ∙ item)
]

-- ---- Arithmetic that is passed

module _ (P : NamedProgram) (row : List Ref) (old new : Goals) (cs : List ℕ) (rest : List Ahead) (next : Ahead)
    (x : IsUnfolding P row old cs) (ahead : old.ahead.items ≡ rest ++ next ∷ []) where
  pub at_next : FirstOf ahead_of x.back next (reverse rest)
  at_next = first_of ahead_of x.back next (reverse rest) (x.ahead ∙ ap reverse ahead ∙ reverse_last rest next)

  pub next_kind : IsGoal P (at_next).first
  next_kind = let n = at_next in All-head (IsGoal P) n.first n.rest (subst (All (IsGoal P)) n.is x.kinds)

  next_goal : (at_next).first.goal ≡ next.goal
  next_goal = let n = at_next in ap (λ (a : Ahead). a.goal) n.first_is

  next_kept : Contains (x.front ++ x.back) (at_next).first
  next_kept = let n = at_next in
      Contains-append_right x.front x.back n.first (subst (λ l. Contains l n.first) (sym n.is) (contains_first n.first n.rest))

  pub next_in_range : IsGoalInRange P (length row) next.goal
  next_in_range =
      let n = at_next in
      let k = x.keeps in
      subst (λ (g : Goal). IsGoalInRange P (length row) g) next_goal
      (All-contains (λ (f : Framed). IsGoalInRange P (length row) f.goal) (x.front ++ x.back) n.first k.in_range next_kept)

  pub next_is_goal : ((t : Term) × (item_at P.program next.goal ≡ call t)) ⊎ ((a : Arithmetic) × (item_at P.program next.goal ≡ arithmetic a))
  next_is_goal = subst (λ (g : Goal). ((t : Term) × (item_at P.program g ≡ call t)) ⊎ ((a : Arithmetic) × (item_at P.program g ≡ arithmetic a)))
      next_goal next_kind

  pub passed_on : (a : Arithmetic) → item_at P.program next.goal ≡ arithmetic a → new.ahead.items ≡ rest
      → new.passed.items ≡ old.passed.items ++ next.goal ∷ [] → new.taken.items ≡ old.taken.items → IsUnfolding P row new cs
  passed_on a is ahead_is passed_is taken_is =
      let n = at_next in
      let f : Framed = n.first in
      let item : item_at P.program f.goal ≡ arithmetic a = ap (λ (g : Goal). item_at P.program g) next_goal ∙ is in
      let lists : x.front ++ x.back ≡ (x.front ++ f ∷ []) ++ n.rest =
      ap (λ l. x.front ++ l) n.is ∙ sym (append_assoc x.front (f ∷ []) n.rest) in
      let kinds : All (IsGoal P) (f ∷ n.rest) = subst (All (IsGoal P)) n.is x.kinds in
      record {
        tree = x.tree;
        unfolds = x.unfolds;
        reductions = x.reductions;
        front = x.front ++ f ∷ [];
        back = n.rest;
        keeps = subst (λ l. Kept P x.reductions row l x.tree) lists x.keeps;
        passed = map-append goal_of x.front (f ∷ []) ∙ ap (λ l. l ++ f.goal ∷ []) x.passed
            ∙ ap (λ g. old.passed.items ++ g ∷ []) next_goal ∙ sym passed_is;
        no_call = λ g i. elim (Contains-append_cases x.front (f ∷ []) g i) [
          | inl j ↦ x.no_call g j
          | inr j ↦ elim (contains_cases f g [] j) [
            | inl e ↦ subst (λ (h : Framed). IsCall P.program h → ⊥) (sym e) (not_called P.program f a item)
            | inr m ↦ absurd (contains_none g m)
          ]
        ];
        kinds = All-tail (IsGoal P) f n.rest kinds;
        ahead = n.rest_is ∙ ap reverse (sym ahead_is);
        taken = subst (λ es. AreTaken P x.reductions (length row) es (all_replaced x.tree)) (sym taken_is) x.taken;
        short = x.short;
      }
