-- What is left to do in a tree, while its arithmetic is run and its calls are reduced.
use Rattle.std.proofs.Common.{ℕ, suc, ◌≡◌, List, [], ◌∷◌, ◌++◌, append_assoc, refl, ap, sym, ◌∙◌, subst, inl, inr, Contains}
use Rattle.and_model.specs.Terms.{Path, Term, Terms, framed}
use Rattle.and_model.specs.Solutions.{Equation, Entails}
use Rattle.and_model.specs.Programs.{Program, Item, call, equal, arithmetic, fail, Arithmetic, arithmetic_in, clause_at, Of}
use Rattle.and_model.specs.Closure.{added, Known, Ran, Without}
use Rattle.and_model.specs.Trees.{Agenda, Tree, done, left, by, equate, reckon, equations, arithmetics, Open, path, call_of, fresh, reduce}
use Rattle.and_model.specs.Stands.{calls_left}
use Rattle.and_laws.proofs.Closing.{known_more}
use Rattle.and_laws.proofs.Solving.{solves_join, solves_front, solves_back}
use Rattle.and_laws.proofs.Ordered.{contains_first, contains_more, contains_cases}
use Rattle.and_branch_laws.specs.Tasks.{Task, take, run, tasks, body_tasks, calls_among, arithmetic_among, Drops, here, behind, RanAmong}
use Rattle.and_branch_laws.specs.Tasks.{none_yet, one}
use Rattle.and_branch_laws.specs.States.{IsBefore}

-- The calls among a tree's tasks are those that are left,
pub tasks_calls : {P : Program} {ag : Agenda} (t : Tree P ag) → calls_among (tasks t) ≡ calls_left t
tasks_calls done = refl
tasks_calls (left {q = q} {g = g} t) = ap (λ (l : List (Path × Term)). (q, g) ∷ l) (tasks_calls t)
tasks_calls (by c h t) = tasks_calls t
tasks_calls (equate t) = tasks_calls t
tasks_calls (reckon t) = tasks_calls t

-- and the arithmetic is the tree's.
pub tasks_arithmetic : {P : Program} {ag : Agenda} (t : Tree P ag) → arithmetic_among (tasks t) ≡ arithmetics t
tasks_arithmetic done = refl
tasks_arithmetic (left t) = tasks_arithmetic t
tasks_arithmetic (by c h t) = tasks_arithmetic t
tasks_arithmetic (equate t) = tasks_arithmetic t
tasks_arithmetic (reckon {a = a} t) = ap (λ (l : List Arithmetic). a ∷ l) (tasks_arithmetic t)

-- ---- Running

drop_calls : (ts : List Task) (a : Arithmetic) (us : List Task) → Drops ts a us → calls_among us ≡ calls_among ts
drop_calls ts a us (here b vs) = refl
drop_calls ts a us (behind (take q g) vs b ws d) = ap (λ (l : List (Path × Term)). (q, g) ∷ l) (drop_calls vs b ws d)
drop_calls ts a us (behind (run x) vs b ws d) = drop_calls vs b ws d

drop_without : (ts : List Task) (a : Arithmetic) (us : List Task) → Drops ts a us → Without (arithmetic_among ts) a (arithmetic_among us)
drop_without ts a us (here b vs) = Without.here b (arithmetic_among vs)
drop_without ts a us (behind (take q g) vs b ws d) = drop_without vs b ws d
drop_without ts a us (behind (run x) vs b ws d) = Without.there x (arithmetic_among vs) b (arithmetic_among ws) (drop_without vs b ws d)

drop_contains : (ts : List Task) (a : Arithmetic) (us : List Task) → Drops ts a us → (x : Task) → Contains us x → Contains ts x
drop_contains ts a us (here b vs) x h = contains_more (run b) x vs h
drop_contains ts a us (behind t vs b ws d) x h = elim (contains_cases t x ws h) [
  | inl e ↦ subst (λ y. Contains (t ∷ vs) y) (sym e) (contains_first t vs)
  | inr i ↦ contains_more t x vs (drop_contains vs b ws d x i)
]

-- Running takes away no call,
pub ran_calls : (es : List Equation) (ts : List Task) (ds : List Equation) (us : List Task) → RanAmong es ts ds us
    → calls_among us ≡ calls_among ts
ran_calls es ts ds us (none_yet es' ts') = refl
ran_calls es ts ds us (one es' ts' a vs values ds' us' d k r) = ran_calls (added a values ++ es') vs ds' us' r ∙ drop_calls ts' a vs d

-- and adds no task,
pub ran_contains : (es : List Equation) (ts : List Task) (ds : List Equation) (us : List Task) → RanAmong es ts ds us → (x : Task)
    → Contains us x → Contains ts x
ran_contains es ts ds us (none_yet es' ts') x h = h
ran_contains es ts ds us (one es' ts' a vs values ds' us' d k r) x h =
    drop_contains ts' a vs d x (ran_contains (added a values ++ es') vs ds' us' r x h)

-- and of the arithmetic it is what the model calls so.
pub ran_ran : (es : List Equation) (ts : List Task) (ds : List Equation) (us : List Task) → RanAmong es ts ds us
    → Ran es (arithmetic_among ts) ds (arithmetic_among us)
ran_ran es ts ds us (none_yet es' ts') = Ran.none_yet es' (arithmetic_among ts')
ran_ran es ts ds us (one es' ts' a vs values ds' us' d k r) =
    Ran.one es' (arithmetic_among ts') a (arithmetic_among vs) values ds' (arithmetic_among us') (drop_without ts' a vs d) k
    (ran_ran (added a values ++ es') vs ds' us' r)

pub tree_ran : {P : Program} {ag : Agenda} (t : Tree P ag) (ds : List Equation) (us : List Task) → RanAmong (equations t) (tasks t) ds us
    → Ran (equations t) (arithmetics t) ds (arithmetic_among us)
tree_ran t ds us r = subst (λ l. Ran (equations t) l ds (arithmetic_among us)) (tasks_arithmetic t)
    (ran_ran (equations t) (tasks t) ds us r)

-- One goal more is run at the end.
pub ran_more : (es : List Equation) (ts : List Task) (ds : List Equation) (us : List Task) → RanAmong es ts ds us
    → (a : Arithmetic) (vs : List Task) (values : Terms) → Drops us a vs → Known ds a values
    → RanAmong es ts (added a values ++ ds) vs
ran_more es ts ds us (none_yet es' ts') a vs values d k = one es' ts' a vs values (added a values ++ es') vs d k
    (none_yet (added a values ++ es') vs)
ran_more es ts ds us (one es' ts' b ws values' ds' us' d' k' r) a vs values d k =
    one es' ts' b ws values' (added a values ++ ds') vs d' k' (ran_more (added b values' ++ es') ws ds' us' r a vs values d k)

-- a goal of arithmetic is dropped where it stands
pub drop_at : (front : List Task) (a : Arithmetic) (back : List Task) → Drops (front ++ run a ∷ back) a (front ++ back)
drop_at [] a back = here a back
drop_at (t ∷ front) a back = behind t (front ++ run a ∷ back) a (front ++ back) (drop_at front a back)

-- ---- Others in the place of a task

drop_before : (news ts : List Task) (a : Arithmetic) (us : List Task) → Drops ts a us → Drops (news ++ ts) a (news ++ us)
drop_before [] ts a us d = d
drop_before (t ∷ news) ts a us d = behind t (news ++ ts) a (news ++ us) (drop_before news ts a us d)

-- Where tasks are left about a call, the call stood among those before; and others in its place don't hinder.
record Split (ts : List Task) (x : Task) (a : Arithmetic) (front back : List Task) : Type 0 where
  pub before : List Task
  pub behind : List Task
  pub was : ts ≡ before ++ x ∷ behind
  pub same_calls : calls_among before ≡ calls_among front
  pub drops : (news : List Task) → Drops (before ++ (news ++ behind)) a (front ++ (news ++ back))

more_calls : (t : Task) (us vs : List Task) → calls_among us ≡ calls_among vs → calls_among (t ∷ us) ≡ calls_among (t ∷ vs)
more_calls (take q g) us vs e = ap (λ (l : List (Path × Term)). (q, g) ∷ l) e
more_calls (run a) us vs e = e

drop_split : (ts : List Task) (a : Arithmetic) (us : List Task) → Drops ts a us → (front : List Task) (x : Task) (back : List Task)
    → us ≡ front ++ x ∷ back → Split ts x a front back
drop_split ts a us (here b vs) front x back e =
    record {
      before = run b ∷ front;
      behind = back;
      was = ap (λ (l : List Task). run b ∷ l) e;
      same_calls = refl;
      drops = λ news. here b (front ++ (news ++ back));
    }
drop_split ts a us (behind t vs b ws d) [] x back e =
    let first : t ≡ x = cc in
    let rest : ws ≡ back = cc in
    record {
      before = [];
      behind = vs;
      was = ap (λ (y : Task). y ∷ vs) first;
      same_calls = refl;
      drops = λ news. drop_before news vs b back (subst (λ l. Drops vs b l) rest d);
    }
drop_split ts a us (behind t vs b ws d) (y ∷ front) x back e =
    let first : t ≡ y = cc in
    let rest : ws ≡ front ++ x ∷ back = cc in
    let s : Split vs x b front back = drop_split vs b ws d front x back rest in
    record {
      before = t ∷ s.before;
      behind = s.behind;
      was = ap (λ (l : List Task). t ∷ l) s.was;
      same_calls = more_calls t s.before front s.same_calls ∙ ap (λ (z : Task). calls_among (z ∷ front)) first;
      drops = λ news. subst (λ z. Drops (t ∷ (s.before ++ (news ++ s.behind))) b (z ∷ (front ++ (news ++ back)))) first
          (behind t (s.before ++ (news ++ s.behind)) b (front ++ (news ++ back)) (s.drops news));
    }

-- What was run is run again under more equations, with others in the place of one task.
pub record Again (es cs : List Equation) (ts ds us : List Task) (ran : List Equation) : Type 0 where
  pub gained : List Equation
  pub was : ran ≡ gained ++ es
  pub again : RanAmong cs ds (gained ++ cs) us

pub record Replaced (es : List Equation) (ts : List Task) (ran : List Equation) (front : List Task) (x : Task)
    (back : List Task) : Type 0 where
  pub before : List Task
  pub behind : List Task
  pub was : ts ≡ before ++ x ∷ behind
  pub same_calls : calls_among before ≡ calls_among front
  pub replace : (news : List Task) (cs : List Equation) → Entails cs es
      → Again es cs ts (before ++ (news ++ behind)) (front ++ (news ++ back)) ran

joined_entail : (xs es cs : List Equation) → Entails cs es → Entails (xs ++ cs) (xs ++ es)
joined_entail xs es cs h s p = solves_join s xs es (solves_front s xs cs p) (h s (solves_back s xs cs p))

pub ran_replaced : (es : List Equation) (ts : List Task) (ran : List Equation) (us : List Task) → RanAmong es ts ran us
    → (front : List Task) (x : Task) (back : List Task) → us ≡ front ++ x ∷ back
    → Replaced es ts ran front x back
ran_replaced es ts ran us (none_yet es' ts') front x back e = record {
  before = front;
  behind = back;
  was = e;
  same_calls = refl;
  replace = λ news cs h. record { gained = []; was = refl; again = none_yet cs (front ++ (news ++ back)) };
}
ran_replaced es ts ran us (one es' ts' a vs values ds' us' d k r) front x back e =
    let i : Replaced (added a values ++ es') vs ds' front x back = ran_replaced (added a values ++ es') vs ds' us' r front x back e in
    let s : Split ts' x a i.before i.behind = drop_split ts' a vs d i.before x i.behind i.was in
    record {
      before = s.before;
      behind = s.behind;
      was = s.was;
      same_calls = s.same_calls ∙ i.same_calls;
      replace = λ news cs h.
          let g : Again (added a values ++ es') (added a values ++ cs) vs (i.before ++ (news ++ i.behind)) (front ++ (news ++ back)) ds' =
          i.replace news (added a values ++ cs) (joined_entail (added a values) es' cs h) in
          record {
            gained = g.gained ++ added a values;
            was = g.was ∙ sym (append_assoc g.gained (added a values) es');
            again = one cs (s.before ++ (news ++ s.behind)) a (i.before ++ (news ++ i.behind)) values ((g.gained ++ added a values) ++ cs)
                (front ++ (news ++ back)) (s.drops news) (known_more es' cs a values h k)
                (subst (λ xs. RanAmong (added a values ++ cs) (i.before ++ (news ++ i.behind)) xs (front ++ (news ++ back)))
                (sym (append_assoc g.gained (added a values) cs)) g.again);
          };
    }

-- ---- Reducing

pub fresh_tasks : {P : Program} (q : Path) (i : ℕ) (items : List Item) {rest : Agenda} (t : Tree P rest)
    → tasks (fresh q i items t) ≡ body_tasks q i items ++ tasks t
fresh_tasks q i [] t = refl
fresh_tasks q i (call g ∷ items) t = ap (λ (l : List Task). take (q ++ i ∷ []) (framed q g) ∷ l) (fresh_tasks q (suc i) items t)
fresh_tasks q i (equal a b ∷ items) t = fresh_tasks q (suc i) items t
fresh_tasks q i (arithmetic a ∷ items) t = ap (λ (l : List Task). run (arithmetic_in q a) ∷ l) (fresh_tasks q (suc i) items t)
fresh_tasks q i (fail ∷ items) t = fresh_tasks q (suc i) items t

-- A call among the tasks is an open goal, and where that is reduced, the body's tasks take its place.
pub record OpenAt {P : Program} {ag : Agenda} (t : Tree P ag) (q : Path) (g : Term) (front back : List Task) : Type 0 where
  pub goal : Open t
  pub path_is : path t goal ≡ q
  pub call_is : call_of t goal ≡ g
  pub reduced : (c : ℕ) (h : Of P (call_of t goal) c) → tasks (reduce t goal c h) ≡ front ++ (body_tasks q 0 (clause_at P c).body ++ back)
  pub before : (p : Open t) → IsBefore t p goal → Contains (calls_among front) (path t p, call_of t p)

pub open_at : {P : Program} {ag : Agenda} (t : Tree P ag) (q : Path) (g : Term) (front back : List Task)
    → tasks t ≡ front ++ take q g ∷ back → OpenAt t q g front back
open_at done q g [] back e = absurd (cc)
open_at done q g (x ∷ front) back e = absurd (cc)
open_at {P} (left {q = q'} {g = g'} t) q g [] back e =
    let paths : q' ≡ q = cc in
    let calls : g' ≡ g = cc in
    let rest : tasks t ≡ back = cc in
    record {
      goal = inl tt;
      path_is = paths;
      call_is = calls;
      reduced = λ c h. fresh_tasks q' 0 (clause_at P c).body t ∙ ap (λ (l : List Task). body_tasks q' 0 (clause_at P c).body ++ l) rest
          ∙ ap (λ (p : Path). body_tasks p 0 (clause_at P c).body ++ back) paths;
      before = elim [ inl u ↦ λ b. elim b [ ] | inr p ↦ λ b. elim b [ ] ];
    }
open_at {P} (left {q = q'} {g = g'} t) q g (x ∷ front) back e =
    let first : take q' g' ≡ x = cc in
    let rest : tasks t ≡ front ++ take q g ∷ back = cc in
    let i : OpenAt t q g front back = open_at t q g front back rest in
    record {
      goal = inr i.goal;
      path_is = i.path_is;
      call_is = i.call_is;
      reduced = λ c h. ap (λ (l : List Task). take q' g' ∷ l) (i.reduced c h)
          ∙ ap (λ (y : Task). y ∷ (front ++ (body_tasks q 0 (clause_at P c).body ++ back))) first;
      before = elim [
        | inl u ↦ λ b. subst (λ (y : Task). Contains (calls_among (y ∷ front)) (q', g')) first (contains_first (q', g') (calls_among front))
        | inr p ↦ λ b. subst (λ (y : Task). Contains (calls_among (y ∷ front)) (path t p, call_of t p)) first
            (contains_more (q', g') (path t p, call_of t p) (calls_among front) (i.before p b))
      ];
    }
open_at (by d k t) q g front back e =
    let i : OpenAt t q g front back = open_at t q g front back e in
    record { goal = i.goal; path_is = i.path_is; call_is = i.call_is; reduced = λ c h. i.reduced c h; before = λ p b. i.before p b }
open_at (equate t) q g front back e =
    let i : OpenAt t q g front back = open_at t q g front back e in
    record { goal = i.goal; path_is = i.path_is; call_is = i.call_is; reduced = λ c h. i.reduced c h; before = λ p b. i.before p b }
open_at (reckon {a = a} t) q g [] back e = absurd (cc)
open_at {P} (reckon {a = a} t) q g (x ∷ front) back e =
    let first : run a ≡ x = cc in
    let rest : tasks t ≡ front ++ take q g ∷ back = cc in
    let i : OpenAt t q g front back = open_at t q g front back rest in
    record {
      goal = i.goal;
      path_is = i.path_is;
      call_is = i.call_is;
      reduced = λ c h. ap (λ (l : List Task). run a ∷ l) (i.reduced c h)
          ∙ ap (λ (y : Task). y ∷ (front ++ (body_tasks q 0 (clause_at P c).body ++ back))) first;
      before = λ p b. subst (λ (y : Task). Contains (calls_among (y ∷ front)) (path t p, call_of t p)) first (i.before p b);
    }
