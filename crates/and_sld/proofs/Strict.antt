-- A derivation whose unifiers are relevant is strict: they speak of frames that were taken.
use Rattle.std.proofs.Common.{ℕ, List, [], ◌∷◌, ◌++◌, map, refl, sym, subst, inl, inr}
use Rattle.and_model.specs.Terms.{Path, Term, Terms, variable, number, compound, none, more, Substitution, apply, apply_all}
use Rattle.and_model.specs.Programs.{Program, Item, call, equal, arithmetic, fail, Arithmetic, clause_at}
use Rattle.and_sld.specs.Resolution.{apply_arithmetic, apply_goal, moved, In, query_goal, query_values, Derives, ended, resolved, equated, passes}
use Rattle.and_sld.specs.Relevant.{Has, OneHas, IsRelevant, AreRelevant, SpeaksOf, IsStrict}
use Rattle.and_sld.proofs.Fronts.{Over, OverAll, over_more, over_framed}

mutual
  has_over : (us : List Path) (t : Term) → Over us t → (q : Path) (k : ℕ) → Has q k t → In q us
  has_over us (variable p j) o q k h = subst (λ x. In x us) (sym h.0) o
  has_over us (number z) o q k h = elim h [ ]
  has_over us (compound c ts) o q k h = all_has_over us ts o q k h

  all_has_over : (us : List Path) (ts : Terms) → OverAll us ts → (q : Path) (k : ℕ) → OneHas q k ts → In q us
  all_has_over us none o q k h = elim h [ ]
  all_has_over us (more t ts) o q k h = elim h [ inl i ↦ has_over us t o.0 q k i | inr i ↦ all_has_over us ts o.1 q k i ]

mutual
  over_has : (us : List Path) (t : Term) → ((q : Path) (k : ℕ) → Has q k t → In q us) → Over us t
  over_has us (variable p j) h = h p j (refl, refl)
  over_has us (number z) h = tt
  over_has us (compound c ts) h = all_over_has us ts h

  all_over_has : (us : List Path) (ts : Terms) → ((q : Path) (k : ℕ) → OneHas q k ts → In q us) → OverAll us ts
  all_over_has us none h = tt
  all_over_has us (more t ts) h = (over_has us t (λ q k i. h q k (inl i)), all_over_has us ts (λ q k i. h q k (inr i)))

speaks : (us : List Path) (s : Substitution) (a b : Term) → Over us a → Over us b → IsRelevant s a b → SpeaksOf us s
speaks us s a b left right r = λ q k.
    elim (r q k) [
      | inl e ↦ inl e
      | inr w ↦ inr (
        elim w.0 [ inl h ↦ has_over us a left q k h | inr h ↦ has_over us b right q k h ],
        λ p j h. elim (w.1 p j h) [ inl i ↦ has_over us a left p j i | inr i ↦ has_over us b right p j i ],
      )
    ]

-- What is over the frames is so under a substitution that speaks of them.
mutual
  over_under : (us : List Path) (s : Substitution) → SpeaksOf us s → (t : Term) → Over us t → Over us (apply s t)
  over_under us s r (variable p k) o =
      elim (r p k) [ inl e ↦ subst (λ x. Over us x) (sym e) o | inr w ↦ over_has us (s p k) w.1 ]
  over_under us s r (number z) o = tt
  over_under us s r (compound c ts) o = all_over_under us s r ts o

  all_over_under : (us : List Path) (s : Substitution) → SpeaksOf us s → (ts : Terms) → OverAll us ts → OverAll us (apply_all s ts)
  all_over_under us s r none o = tt
  all_over_under us s r (more t ts) o = (over_under us s r t o.0, all_over_under us s r ts o.1)

-- the calls and equations of a goal are over the frames
abbrev GoalOver : List Path → List Item → Type 0
GoalOver us [] = Unit {0}
GoalOver us (call g ∷ items) = Over us g × GoalOver us items
GoalOver us (equal a b ∷ items) = Over us a × Over us b × GoalOver us items
GoalOver us (arithmetic a ∷ items) = GoalOver us items
GoalOver us (fail ∷ items) = GoalOver us items

goal_under : (us : List Path) (s : Substitution) → SpeaksOf us s → (items : List Item) → GoalOver us items → GoalOver us (apply_goal s items)
goal_under us s r [] o = tt
goal_under us s r (call g ∷ items) o = (over_under us s r g o.0, goal_under us s r items o.1)
goal_under us s r (equal a b ∷ items) o = (over_under us s r a o.0, over_under us s r b o.1, goal_under us s r items o.2)
goal_under us s r (arithmetic a ∷ items) o = goal_under us s r items o
goal_under us s r (fail ∷ items) o = goal_under us s r items o

goal_more : (q : Path) (us : List Path) (items : List Item) → GoalOver us items → GoalOver (q ∷ us) items
goal_more q us [] o = tt
goal_more q us (call g ∷ items) o = (over_more q us g o.0, goal_more q us items o.1)
goal_more q us (equal a b ∷ items) o = (over_more q us a o.0, over_more q us b o.1, goal_more q us items o.2)
goal_more q us (arithmetic a ∷ items) o = goal_more q us items o
goal_more q us (fail ∷ items) o = goal_more q us items o

goal_join : (us : List Path) (items rest : List Item) → GoalOver us items → GoalOver us rest → GoalOver us (items ++ rest)
goal_join us [] rest o p = p
goal_join us (call g ∷ items) rest o p = (o.0, goal_join us items rest o.1 p)
goal_join us (equal a b ∷ items) rest o p = (o.0, o.1, goal_join us items rest o.2 p)
goal_join us (arithmetic a ∷ items) rest o p = goal_join us items rest o p
goal_join us (fail ∷ items) rest o p = goal_join us items rest o p

goal_moved : (us : List Path) (q : Path) → In q us → (items : List Item) → GoalOver us (apply_goal (moved q) items)
goal_moved us q i [] = tt
goal_moved us q i (call g ∷ items) = (over_framed us q i g, goal_moved us q i items)
goal_moved us q i (equal a b ∷ items) = (over_framed us q i a, over_framed us q i b, goal_moved us q i items)
goal_moved us q i (arithmetic a ∷ items) = goal_moved us q i items
goal_moved us q i (fail ∷ items) = goal_moved us q i items

strict : (P : Program) (frames : List Path) (passed : List Arithmetic) (items : List Item) (values : List Term) (cs : List ℕ)
    (left : List Arithmetic) (found : List Term) (d : Derives P frames passed items values cs left found)
    → GoalOver frames items → AreRelevant d → IsStrict d
strict P frames passed items values cs left found (ended fs ps vs) o r = tt
strict P frames passed items values cs left found (resolved fs ps g is vs c ds q s ls ans low high n m d) o r =
    let us : List Path = q ∷ fs in
    let body : List Item = apply_goal (moved q) (clause_at P c).body in
    let says : SpeaksOf us s =
    speaks us s g (apply (moved q) (clause_at P c).head) (over_more q fs g o.0) (over_framed us q (inl refl) (clause_at P c).head) r.0 in
    let next : GoalOver us (apply_goal s (body ++ is)) =
    goal_under us s says (body ++ is) (goal_join us body is (goal_moved us q (inl refl) (clause_at P c).body) (goal_more q fs is o.1)) in
    (says, strict P us (map (apply_arithmetic s) ps) (apply_goal s (body ++ is)) (map (apply s) vs) ds ls ans d next r.1)
strict P frames passed items values cs left found (equated fs ps a b is vs ds s ls ans m d) o r =
    let says : SpeaksOf fs s = speaks fs s a b o.0 o.1 r.0 in
    (says, strict P fs (map (apply_arithmetic s) ps) (apply_goal s is) (map (apply s) vs) ds ls ans d (goal_under fs s says is o.2) r.1)
strict P frames passed items values cs left found (passes fs ps a is vs ds ls ans d) o r = strict P fs (ps ++ a ∷ []) is vs ds ls ans d o r

-- the law
pub relevant_is_strict : (P : Program) (cs : List ℕ) (left : List Arithmetic) (found : List Term)
    (d : Derives P ([] ∷ []) [] (query_goal P) (query_values P (moved [])) cs left found) → AreRelevant d → IsStrict d
relevant_is_strict P cs left found d r =
    strict P ([] ∷ []) [] (query_goal P) (query_values P (moved [])) cs left found d (goal_moved ([] ∷ []) [] (inl refl) P.query.body) r
