-- Arithmetic is reckoned behind a derivation as the equations of its tree close.
use Rattle.std.proofs.Common.{ℤ, ◌≡◌, Bool, true, false, true≢false, cond, List, [], ◌∷◌, ◌++◌, map, refl, ap, sym, ◌∙◌, subst, Option, Some, None, pos}
use Rattle.std.proofs.Common.{inl, inr}
use Rattle.and_model.specs.Terms.{Term, Terms, number, none, more, is_ground, are_ground, Substitution, apply, apply_all}
use Rattle.and_model.specs.Solutions.{Equation, Solves, Solvable, falsehood}
use Rattle.and_model.specs.Arithmetic.{Relation, value, holds}
use Rattle.and_model.specs.Programs.{Arithmetic, is, compare}
use Rattle.and_model.specs.Closure.{needs, equals, added, Known, First, first, after, NoneReady, Closes, unsolved, waiting, run}
use Rattle.and_laws.proofs.Substitutions.{and_left, and_right, apply_all_ground, same, then, apply_then}
use Rattle.and_laws.proofs.Solving.{solves_back}
use Rattle.and_laws.proofs.Unifying.{unify}
use Rattle.and_sld.specs.Resolution.{IsMgu, apply_arithmetic, is_ready, Selects, leftmost, later, NoneIsReady, Reckons, settled, assigned, compared}
use Rattle.and_sld.proofs.Arithmetics.{arithmetic_same, goals_via}
use Rattle.and_sld.proofs.Instances.{via, list_via}

-- two terms with a unifier have a most general one
pub mgu_of : (a b : Term) (t : Substitution) → apply t a ≡ apply t b → (s : Substitution) × IsMgu s a b
mgu_of a b t e = elim (unify ((a, b) ∷ [])) [ inl m ↦ (m.0, (m.1.0.0, λ u h. (u, m.1.1 u (h, tt)))) | inr n ↦ absurd (n (t, (e, tt))) ]

heads : {A : Type 0} (x y : A) (xs ys : List A) → x ∷ xs ≡ y ∷ ys → x ≡ y
heads x y xs ys e = cc

tails : {A : Type 0} (x y : A) (xs ys : List A) → x ∷ xs ≡ y ∷ ys → xs ≡ ys
tails x y xs ys e = cc

joined : {A : Type 0} (x y : A) (xs ys : List A) → x ≡ y → xs ≡ ys → x ∷ xs ≡ y ∷ ys
joined x y xs ys e f = cc

-- what a goal asks for, and when it is ready
needs_under : (s : Substitution) (g : Arithmetic) → needs (apply_arithmetic s g) ≡ apply_all s (needs g)
needs_under s (is l r) = refl
needs_under s (compare m a b) = refl

ready_ground : (h : Arithmetic) → is_ready h ≡ true → are_ground (needs h) ≡ true
ready_ground (is l r) e = rw e refl
ready_ground (compare m a b) e = rw (and_left (is_ground a) (is_ground b) e, and_right (is_ground a) (is_ground b) e) refl

ground_ready : (h : Arithmetic) → are_ground (needs h) ≡ true → is_ready h ≡ true
ground_ready (is l r) e = and_left (is_ground r) true e
ground_ready (compare m a b) e =
    let second = and_right (is_ground a) (are_ground (more b none)) e in
    rw (and_left (is_ground a) (are_ground (more b none)) e, and_left (is_ground b) true second) refl

unready : (h : Arithmetic) → (is_ready h ≡ true → ⊥) → is_ready h ≡ false
unready h n = elim (is_ready h) as (λ b. is_ready h ≡ b → is_ready h ≡ false) [ true ↦ λ e. absurd (n e) | false ↦ λ e. e ] refl

-- Each solution of the equations meets a substitution, and each substitution a solution.
abbrev pub Meet : List Equation → (Substitution → Substitution → Type 0) → Type 0
Meet es R =
    ((u : Substitution) → Solves u es → (v : Substitution) × R u v)
    × ((v : Substitution) → (u : Substitution) × Solves u es × R u v)

-- The first makes of the first terms and goals what the second makes of the second ones.
abbrev pub Same : List Term → List Term → List Arithmetic → List Arithmetic → Substitution → Substitution → Type 0
Same xs ys gs hs u v = (map (apply u) xs ≡ map (apply v) ys) × (map (apply_arithmetic u) gs ≡ map (apply_arithmetic v) hs)

-- so they do of a goal and of the others
abbrev Parts : Arithmetic → Arithmetic → List Arithmetic → List Arithmetic → Substitution → Substitution → Type 0
Parts g h bs others u v = (apply_arithmetic u g ≡ apply_arithmetic v h) × (map (apply_arithmetic u) bs ≡ map (apply_arithmetic v) others)

record Selected (R : Substitution → Substitution → Type 0) (g : Arithmetic) (bs : List Arithmetic) (ts : Terms) (hs : List Arithmetic) : Type 0 where
  goal : Arithmetic
  others : List Arithmetic
  selects : Selects hs goal others
  needed : ts ≡ needs goal
  meets : (u v : Substitution) → R u v → Parts g goal bs others u v

record ComesFirst (R : Substitution → Substitution → Type 0) (es : List Equation) (gs : List Arithmetic) (h : Arithmetic)
    (others : List Arithmetic) : Type 0 where
  goal : Arithmetic
  rest : List Arithmetic
  comes : First es gs goal rest
  known : Known es goal (needs h)
  meets : (u v : Substitution) → R u v → Parts goal h rest others u v

module _ (R : Substitution → Substitution → Type 0) (es : List Equation) (m : Meet es R) where
  -- Goals that meet are known and ready alike.
  known_needs : (g h : Arithmetic) (ts : Terms) → ((u v : Substitution) → R u v → apply_arithmetic u g ≡ apply_arithmetic v h) → Known es g ts → ts ≡ needs h
  known_needs g h ts e k =
      let w = m.1 same in
      sym (k.1 w.0 w.1) ∙ sym (needs_under w.0 g) ∙ ap needs (e w.0 same w.2) ∙ ap needs (arithmetic_same h)

  known_ready : (g h : Arithmetic) (ts : Terms) → ((u v : Substitution) → R u v → apply_arithmetic u g ≡ apply_arithmetic v h) → Known es g ts
      → is_ready h ≡ true
  known_ready g h ts e k = ground_ready h (subst (λ x. are_ground x ≡ true) (known_needs g h ts e k) k.0)

  ready_known : (g h : Arithmetic) → ((u v : Substitution) → R u v → apply_arithmetic u g ≡ apply_arithmetic v h) → is_ready h ≡ true → Known es g (needs h)
  ready_known g h e r = (
    ready_ground h r,
    λ u p.
        let w = m.0 u p in
        sym (needs_under u g) ∙ ap needs (e u w.0 w.1) ∙ needs_under w.0 h ∙ apply_all_ground w.0 (needs h) (ready_ground h r),
  )

  first_selected : (gs : List Arithmetic) (g : Arithmetic) (bs : List Arithmetic) → First es gs g bs → (ts : Terms) → Known es g ts
      → (hs : List Arithmetic) → ((u v : Substitution) → R u v → map (apply_arithmetic u) gs ≡ map (apply_arithmetic v) hs) → Selected R g bs ts hs
  first_selected gs g bs (first g' gs') ts k [] e = absurd (let w = m.1 same in let f = e w.0 same w.2 in cc)
  first_selected gs g bs (first g' gs') ts k (h ∷ hs) e =
      let one : (u v : Substitution) → R u v → apply_arithmetic u g' ≡ apply_arithmetic v h = λ u v r. heads _ _ _ _ (e u v r) in
      record {
        goal = h;
        others = hs;
        selects = leftmost h hs (known_ready g' h ts one k);
        needed = known_needs g' h ts one k;
        meets = λ u v r. (one u v r, tails _ _ _ _ (e u v r));
      }
  first_selected gs g bs (after b gs' g' bs' n f) ts k [] e = absurd (let w = m.1 same in let f = e w.0 same w.2 in cc)
  first_selected gs g bs (after b gs' g' bs' n f) ts k (h ∷ hs) e =
      let one : (u v : Substitution) → R u v → apply_arithmetic u b ≡ apply_arithmetic v h = λ u v r. heads _ _ _ _ (e u v r) in
      let i = first_selected gs' g' bs' f ts k hs (λ u v r. tails _ _ _ _ (e u v r)) in
      record {
        goal = i.goal;
        others = h ∷ i.others;
        selects = later h hs i.goal i.others (unready h (λ r. n (needs h, ready_known b h one r))) i.selects;
        needed = i.needed;
        meets = λ u v r. ((i.meets u v r).0, joined _ _ _ _ (one u v r) (i.meets u v r).1);
      }

  selected_first : (hs : List Arithmetic) (h : Arithmetic) (others : List Arithmetic) → Selects hs h others
      → (gs : List Arithmetic) → ((u v : Substitution) → R u v → map (apply_arithmetic u) gs ≡ map (apply_arithmetic v) hs) → ComesFirst R es gs h others
  selected_first hs h others (leftmost h' hs' r) [] e = absurd (let w = m.1 same in let f = e w.0 same w.2 in cc)
  selected_first hs h others (leftmost h' hs' r) (g ∷ gs) e =
      let one : (u v : Substitution) → R u v → apply_arithmetic u g ≡ apply_arithmetic v h' = λ u v r. heads _ _ _ _ (e u v r) in
      record {
        goal = g;
        rest = gs;
        comes = first g gs;
        known = ready_known g h' one r;
        meets = λ u v r. (one u v r, tails _ _ _ _ (e u v r));
      }
  selected_first hs h others (later a hs' h' others' n s) [] e = absurd (let w = m.1 same in let f = e w.0 same w.2 in cc)
  selected_first hs h others (later a hs' h' others' n s) (g ∷ gs) e =
      let one : (u v : Substitution) → R u v → apply_arithmetic u g ≡ apply_arithmetic v a = λ u v r. heads _ _ _ _ (e u v r) in
      let i = selected_first hs' h' others' s gs (λ u v r. tails _ _ _ _ (e u v r)) in
      record {
        goal = i.goal;
        rest = g ∷ i.rest;
        comes = after g gs i.goal i.rest (λ r. true≢false (sym (known_ready g a r.0 one r.1) ∙ n)) i.comes;
        known = i.known;
        meets = λ u v r. ((i.meets u v r).0, joined _ _ _ _ (one u v r) (i.meets u v r).1);
      }

  none_selected : (gs hs : List Arithmetic) → ((u v : Substitution) → R u v → map (apply_arithmetic u) gs ≡ map (apply_arithmetic v) hs)
      → NoneReady es gs → NoneIsReady hs
  none_selected gs [] e n = tt
  none_selected [] (h ∷ hs) e n = absurd (let w = m.1 same in let f = e w.0 same w.2 in cc)
  none_selected (g ∷ gs) (h ∷ hs) e n = (
    unready h (λ r. n.0 (needs h, ready_known g h (λ u v r. heads _ _ _ _ (e u v r)) r)),
    none_selected gs hs (λ u v r. tails _ _ _ _ (e u v r)) n.1,
  )

  none_known : (gs hs : List Arithmetic) → ((u v : Substitution) → R u v → map (apply_arithmetic u) gs ≡ map (apply_arithmetic v) hs)
      → NoneIsReady hs → NoneReady es gs
  none_known [] hs e n = tt
  none_known (g ∷ gs) [] e n = absurd (let w = m.1 same in let f = e w.0 same w.2 in cc)
  none_known (g ∷ gs) (h ∷ hs) e n = (
    λ r. true≢false (sym (known_ready g h r.0 (λ u v r. heads _ _ _ _ (e u v r)) r.1) ∙ n.0),
    none_known gs hs (λ u v r. tails _ _ _ _ (e u v r)) n.1,
  )

-- What becomes of terms and goals where one goal was run.
module _ (es : List Equation) (xs ys : List Term) (gs hs : List Arithmetic) (m : Meet es (Same xs ys gs hs)) (bs others : List Arithmetic) where
  meet_assigned : (l r l' r' : Term) (z : ℤ) (s : Substitution) → IsMgu s l' (number z)
      → ((u v : Substitution) → Same xs ys gs hs u v → Parts (is l r) (is l' r') bs others u v)
      → Meet ((l, number z) ∷ es) (Same xs (map (apply s) ys) bs (map (apply_arithmetic s) others))
  meet_assigned l r l' r' z s mgu e = (
    λ u p.
        let w = m.0 u p.1 in
        let parts = e u w.0 w.1 in
        let lefts : apply u l ≡ apply w.0 l' = let f = parts.0 in cc in
        let t = mgu.1 w.0 (sym lefts ∙ p.0) in
        (t.0, (w.1.0 ∙ list_via s t.0 w.0 t.1 ys, parts.1 ∙ goals_via s t.0 w.0 (via s t.0 w.0 t.1) others)),
    λ v.
        let w = m.1 (then s v) in
        let parts = e w.0 (then s v) w.2 in
        let lefts : apply w.0 l ≡ apply (then s v) l' = let f = parts.0 in cc in (
          w.0,
          (lefts ∙ sym (apply_then s v l') ∙ ap (apply v) mgu.0, w.1),
          (
            w.2.0 ∙ list_via s v (then s v) (λ q k. refl) ys,
            parts.1 ∙ goals_via s v (then s v) (λ x. sym (apply_then s v x)) others,
          ),
        ),
  )

  meet_compared : ((u v : Substitution) → Same xs ys gs hs u v → map (apply_arithmetic u) bs ≡ map (apply_arithmetic v) others)
      → Meet es (Same xs ys bs others)
  meet_compared e = (
    λ u p. let w = m.0 u p in (w.0, (w.1.0, e u w.0 w.1)),
    λ v. let w = m.1 v in (w.0, w.1, (w.2.0, e w.0 v w.2)),
  )

-- What is left to reckon, from goals and values, where one goal was run.
record Onward (es : List Equation) (xs : List Term) (bs hs : List Arithmetic) (ys : List Term) : Type 0 where
  others : List Arithmetic
  values : List Term
  meet : Meet es (Same xs values bs others)
  back : (ws : List Arithmetic) (answer : List Term) → Reckons others values ws answer → Reckons hs ys ws answer

module _ (es : List Equation) (xs ys : List Term) (gs hs : List Arithmetic) (m : Meet es (Same xs ys gs hs)) (bs others : List Arithmetic) where
  assigns : (l r l' r' : Term) (o : Option ℤ) → value r' ≡ o → Solvable (equals l o ++ es) → Selects hs (is l' r') others
      → ((u v : Substitution) → Same xs ys gs hs u v → Parts (is l r) (is l' r') bs others u v) → Onward (equals l o ++ es) xs bs hs ys
  assigns l r l' r' None v so sel e = absurd (let f : number (pos 0) ≡ number (pos 1) = so.1.0 in cc)
  assigns l r l' r' (Some z) v so sel e =
      let w = m.0 so.0 so.1.1 in
      let lefts : apply so.0 l ≡ apply w.0 l' = let f = (e so.0 w.0 w.1).0 in cc in
      let mgu = mgu_of l' (number z) w.0 (sym lefts ∙ so.1.0) in
      let s : Substitution = mgu.0 in
      record {
        others = map (apply_arithmetic s) others;
        values = map (apply s) ys;
        meet = meet_assigned es xs ys gs hs m bs others l r l' r' z s mgu.1 e;
        back = λ ws answer r''. assigned hs ys l' r' others z s ws answer sel v mgu.1 r'';
      }

  compares : (k : Relation) (a b : Term) (c : Bool) → holds k a b ≡ c → Solvable (cond c [] (falsehood ∷ []) ++ es) → Selects hs (compare k a b) others
      → ((u v : Substitution) → Same xs ys gs hs u v → map (apply_arithmetic u) bs ≡ map (apply_arithmetic v) others)
      → Onward (cond c [] (falsehood ∷ []) ++ es) xs bs hs ys
  compares k a b false h so sel e = absurd (let f : number (pos 0) ≡ number (pos 1) = so.1.0 in cc)
  compares k a b true h so sel e = record {
    others = others;
    values = ys;
    meet = meet_compared es xs ys gs hs m bs others e;
    back = λ ws answer r. compared hs ys k a b others ws answer sel h r;
  }

  onward : (g h : Arithmetic) → Solvable (added g (needs h) ++ es) → Selects hs h others
      → ((u v : Substitution) → Same xs ys gs hs u v → Parts g h bs others u v) → Onward (added g (needs h) ++ es) xs bs hs ys
  onward (is l r) (is l' r') so sel e = assigns l r l' r' (value r') refl so sel e
  onward (is l r) (compare k' a' b') so sel e = absurd (let w = m.1 same in let f = (e w.0 same w.2).0 in cc)
  onward (compare k a b) (is l' r') so sel e = absurd (let w = m.1 same in let f = (e w.0 same w.2).0 in cc)
  onward (compare k a b) (compare k' a' b') so sel e =
      let relations : k' ≡ k = let w = m.1 same in let f = (e w.0 same w.2).0 in cc in
      subst (λ x. Onward (cond (holds x a' b') [] (falsehood ∷ []) ++ es) xs bs hs ys) relations
      (
      compares k' a' b' (holds k' a' b') refl
      (subst (λ x. Solvable (cond (holds x a' b') [] (falsehood ∷ []) ++ es)) (sym relations) so)
      sel (λ u v r. (e u v r).1)
      )

pub closing_solved : (es : List Equation) (gs : List Arithmetic) (ds : List Equation) (ws : List Arithmetic) → Closes es gs ds ws
    → (s : Substitution) → Solves s ds → Solves s es
closing_solved es gs ds ws (unsolved es' gs' n) s p = p
closing_solved es gs ds ws (waiting es' gs' n) s p = p
closing_solved es gs ds ws (run es' gs' g bs ts ds' ws' so fi k r) s p = solves_back s (added g ts) es' (closing_solved (added g ts ++ es') bs ds' ws' r s p)

-- Where equations close to some with a solution, the goals reckon, and what waits meets.
pub record Reckoned (xs : List Term) (cs : List Equation) (ws hs : List Arithmetic) (ys : List Term) : Type 0 where
  pub waits : List Arithmetic
  pub answer : List Term
  pub reckons : Reckons hs ys waits answer
  pub meet : Meet cs (Same xs answer ws waits)

pub closes_reckons : (es : List Equation) (gs : List Arithmetic) (cs : List Equation) (ws : List Arithmetic) → Closes es gs cs ws → Solvable cs
    → (xs ys : List Term) (hs : List Arithmetic) → Meet es (Same xs ys gs hs) → Reckoned xs cs ws hs ys
closes_reckons es gs cs ws (unsolved es' gs' n) so xs ys hs m = absurd (n so)
closes_reckons es gs cs ws (waiting es' gs' n) so xs ys hs m = record {
  waits = hs;
  answer = ys;
  reckons = settled hs ys (none_selected (Same xs ys gs' hs) es' m gs' hs (λ u v r. r.1) n);
  meet = m;
}
closes_reckons es gs cs ws (run es' gs' g bs ts cs' ws' begun f k r) so xs ys hs m =
    let sel = first_selected (Same xs ys gs' hs) es' m gs' g bs f ts k hs (λ u v r. r.1) in
    let solved : Solvable (added g ts ++ es') = (so.0, closing_solved (added g ts ++ es') bs cs' ws' r so.0 so.1) in
    let on : Onward (added g ts ++ es') xs bs hs ys =
    subst (λ x. Onward (added g x ++ es') xs bs hs ys) (sym sel.needed)
    (onward es' xs ys gs' hs m bs sel.others g sel.goal (subst (λ x. Solvable (added g x ++ es')) sel.needed solved) sel.selects sel.meets) in
    let i = closes_reckons (added g ts ++ es') bs cs' ws' r so xs on.values on.others on.meet in
    record { waits = i.waits; answer = i.answer; reckons = on.back i.waits i.answer i.reckons; meet = i.meet }

-- And where goals reckon, the equations close.
pub record Closing (xs : List Term) (es : List Equation) (gs waits : List Arithmetic) (answer : List Term) : Type 0 where
  pub ends : List Equation
  pub goals : List Arithmetic
  pub closes : Closes es gs ends goals
  pub solvable : Solvable ends
  pub meet : Meet ends (Same xs answer goals waits)

assigned_meets : (es : List Equation) (xs ys : List Term) (gs hs : List Arithmetic) (m : Meet es (Same xs ys gs hs)) (bs others : List Arithmetic)
    (g : Arithmetic) (l r : Term) (z : ℤ) (s : Substitution) → value r ≡ Some z → IsMgu s l (number z)
    → ((u v : Substitution) → Same xs ys gs hs u v → Parts g (is l r) bs others u v)
    → Meet (added g (needs (is l r)) ++ es) (Same xs (map (apply s) ys) bs (map (apply_arithmetic s) others))
assigned_meets es xs ys gs hs m bs others (is a b) l r z s v mgu e =
    subst (λ o. Meet (equals a o ++ es) (Same xs (map (apply s) ys) bs (map (apply_arithmetic s) others))) (sym v)
    (meet_assigned es xs ys gs hs m bs others a b l r z s mgu e)
assigned_meets es xs ys gs hs m bs others (compare k a b) l r z s v mgu e = absurd (let w = m.1 same in let f = (e w.0 same w.2).0 in cc)

compared_meets : (es : List Equation) (xs ys : List Term) (gs hs : List Arithmetic) (m : Meet es (Same xs ys gs hs)) (bs others : List Arithmetic)
    (g : Arithmetic) (k : Relation) (a b : Term) → holds k a b ≡ true
    → ((u v : Substitution) → Same xs ys gs hs u v → Parts g (compare k a b) bs others u v)
    → Meet (added g (needs (compare k a b)) ++ es) (Same xs ys bs others)
compared_meets es xs ys gs hs m bs others (is l r) k a b h e = absurd (let w = m.1 same in let f = (e w.0 same w.2).0 in cc)
compared_meets es xs ys gs hs m bs others (compare k' a' b') k a b h e =
    let relations : k ≡ k' = let w = m.1 same in let f = (e w.0 same w.2).0 in cc in
    subst (λ c. Meet (cond c [] (falsehood ∷ []) ++ es) (Same xs ys bs others)) (sym (subst (λ x. holds x a b ≡ true) relations h))
    (meet_compared es xs ys gs hs m bs others (λ u v r. (e u v r).1))

pub reckons_closes : (hs : List Arithmetic) (ys : List Term) (waits : List Arithmetic) (answer : List Term) → Reckons hs ys waits answer
    → (es : List Equation) (gs : List Arithmetic) (xs : List Term) → Meet es (Same xs ys gs hs) → Closing xs es gs waits answer
reckons_closes hs ys waits answer (settled hs' ys' n) es gs xs m =
    let w = m.1 same in
    record {
      ends = es;
      goals = gs;
      closes = waiting es gs (none_known (Same xs ys' gs hs') es m gs hs' (λ u v r. r.1) n);
      solvable = (w.0, w.1);
      meet = m;
    }
reckons_closes hs ys waits answer (assigned hs' ys' l r others z s ws ys2 sel v mgu rest) es gs xs m =
    let w = m.1 same in
    let f = selected_first (Same xs ys' gs hs') es m hs' (is l r) others sel gs (λ u v r. r.1) in
    let next : List Equation = added f.goal (needs (is l r)) ++ es in
    let i = reckons_closes (map (apply_arithmetic s) others) (map (apply s) ys') ws ys2 rest next f.rest xs
    (assigned_meets es xs ys' gs hs' m f.rest others f.goal l r z s v mgu f.meets) in
    record {
      ends = i.ends;
      goals = i.goals;
      closes = run es gs f.goal f.rest (needs (is l r)) i.ends i.goals (w.0, w.1) f.comes f.known i.closes;
      solvable = i.solvable;
      meet = i.meet;
    }
reckons_closes hs ys waits answer (compared hs' ys' k a b others ws ys2 sel h rest) es gs xs m =
    let w = m.1 same in
    let f = selected_first (Same xs ys' gs hs') es m hs' (compare k a b) others sel gs (λ u v r. r.1) in
    let next : List Equation = added f.goal (needs (compare k a b)) ++ es in
    let i = reckons_closes others ys' ws ys2 rest next f.rest xs (compared_meets es xs ys' gs hs' m f.rest others f.goal k a b h f.meets) in
    record {
      ends = i.ends;
      goals = i.goals;
      closes = run es gs f.goal f.rest (needs (compare k a b)) i.ends i.goals (w.0, w.1) f.comes f.known i.closes;
      solvable = i.solvable;
      meet = i.meet;
    }
