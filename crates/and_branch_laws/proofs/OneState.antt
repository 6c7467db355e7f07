-- A tree has one state.
use Rattle.std.proofs.Common.{ℕ, ◌≡◌, ◌≢◌, ◌<◌, List, [], ◌∷◌, Option, Some, None, refl, sym, ap, ◌∙◌, subst, inl, inr, ◌⊎◌, arith}
use Rattle.std.proofs.Common.{Contains}
use Rattle.and_model.specs.Solutions.{Equation, Solvable}
use Rattle.and_model.specs.Programs.{Program, Arithmetic}
use Rattle.and_model.specs.Trees.{Agenda, Tree, QueryTree, done, left, by, equate, reckon, Open, IsWhole, Closed, path, call_of}
use Rattle.and_model.specs.Reached.{CandidateOf, Shut, Dead}
use Rattle.and_laws.proofs.Agreeing.{dead_below_shut}
use Rattle.and_laws.proofs.Listings.{closed_alike}
use Rattle.and_laws.proofs.Order.{below_self, whole_has_none}
use Rattle.and_laws.proofs.Ordered.{contains_first, same_elements}
use Rattle.and_laws.proofs.Picking.{candidate_falls}
use Rattle.and_laws.proofs.Splitting.{leftmost_same}
use Rattle.and_branch_laws.specs.States.{IsBefore, IsSole, Fits, Lives, ShutAt, IsFirst, State, failed, determinate, over_one, over_all}
use Rattle.and_branch_laws.specs.States.{fork, floundered, answer, StateOf}

-- Of two open goals one stands before the other, or they are one.
pub order_or : {P : Program} {ag : Agenda} (t : Tree P ag) (o p : Open t) → (o ≡ p) ⊎ IsBefore t o p ⊎ IsBefore t p o
order_or done o p = elim o [ ]
order_or (left t) (inl u) (inl v) = inl refl
order_or (left t) (inl u) (inr p) = inr (inl tt)
order_or (left t) (inr o) (inl v) = inr (inr tt)
order_or (left t) (inr o) (inr p) = elim (order_or t o p) [ inl e ↦ inl (ap inr e) | inr b ↦ inr b ]
order_or (by c h t) o p = order_or t o p
order_or (equate t) o p = order_or t o p
order_or (reckon t) o p = order_or t o p

-- The first number of which something holds is one.
first_same : (A B : ℕ → Type 0) (a b : Option ℕ) → ((c : ℕ) → A c → B c) → ((c : ℕ) → B c → A c) → IsFirst A a → IsFirst B b → a ≡ b
first_same A B None None f g x y = refl
first_same A B None (Some d) f g x y = absurd (x d (g d y.0))
first_same A B (Some c) None f g x y = absurd (y c (f c x.0))
first_same A B (Some c) (Some d) f g x y =
    let one = x.1 d (g d y.0) in
    let other = y.1 c (f c x.0) in
    let same : c ≡ d = omega arith in
    ap (λ (e : ℕ). Some e) same

module _ (P : Program) (limit : ℕ) (t : QueryTree P) where
  -- Candidates do not depend on the closure.
  moved : (es ds : List Equation) (gs ws : List Arithmetic) → Closed t es gs → Closed t ds ws → (o : Open t) (c : ℕ)
      → CandidateOf t es o c → CandidateOf t ds o c
  moved es ds gs ws x y o c k = candidate_falls P ds es (path t o) (call_of t o) c (closed_alike t es ds gs ws x y).0 k

  sole_moved : (es ds : List Equation) (gs ws : List Arithmetic) → Closed t es gs → Closed t ds ws → (o : Open t) (c : ℕ)
      → IsSole t es o c → IsSole t ds o c
  sole_moved es ds gs ws x y o c k = (moved es ds gs ws x y o c k.0, λ d j. k.1 d (moved ds es ws gs y x o d j))

  solvable_moved : (es ds : List Equation) (gs ws : List Arithmetic) → Closed t es gs → Closed t ds ws → Solvable es → Solvable ds
  solvable_moved es ds gs ws x y so = (so.0, (closed_alike t es ds gs ws x y).0 so.0 so.1)

  -- ---- States apart

  pub lives_not_dead : (es : List Equation) (gs : List Arithmetic) → Lives t es gs → Dead t → ⊥
  lives_not_dead es gs l dead =
      let (ds, ws, y, why) = dead in
      elim why [
        | inl none ↦ none (solvable_moved es ds gs ws l.0 y l.1)
        | inr w ↦ let c = l.2 w.0 in w.1 c.0 (moved es ds gs ws l.0 y w.0 c.0 c.1)
      ]

  whole_not_dead : (es : List Equation) (gs : List Arithmetic) → Closed t es gs → Solvable es → IsWhole t → Dead t → ⊥
  whole_not_dead es gs x so whole dead =
      let (ds, ws, y, why) = dead in
      elim why [ inl none ↦ none (solvable_moved es ds gs ws x y so) | inr w ↦ whole_has_none t whole w.0 ]

  pub sole_not_shut : (es : List Equation) (gs : List Arithmetic) → Closed t es gs → (o : Open t) (c : ℕ) → IsSole t es o c → Shut t → ⊥
  sole_not_shut es gs x o c sole shut =
      let (ds, ws, y, so, two) = shut in
      let (a, b, apart, first, second) = two o in
      apart (sole.1 a (moved ds es ws gs y x o a first) ∙ sym (sole.1 b (moved ds es ws gs y x o b second)))

  dead_not_shut : Dead t → Shut t → ⊥
  dead_not_shut dead shut = dead_below_shut t t (below_self t) dead shut

  fits_or_none : (o p : Open t) (c d : ℕ) (cs : List ℕ) (cut : Option ℕ) → StateOf P limit t (over_all o c)
      → StateOf P limit t (fork p cs cut) → ⊥
  fits_or_none o p c d cs cut x y = some_fits cs y.3 (λ e h. (y.5 e).0 h)
    where
      some_fits : (ls : List ℕ) → ls ≢ [] → ((e : ℕ) → Contains ls e → CandidateOf t y.0 p e × Fits limit t e) → ⊥
      some_fits [] none f = none refl
      some_fits (e ∷ ls) none f =
          let both = f e (contains_first e ls) in
          let same : p ≡ o = leftmost_same t p o y.2.1 x.2.1 in
          x.3 e (subst (λ (q : Open t). CandidateOf t x.0 q e) same (moved y.0 x.0 y.1 x.1 y.2.2 x.2.2 p e both.0)) both.1

  waits_or_not : StateOf P limit t floundered → StateOf P limit t answer → ⊥
  waits_or_not x y =
      let alike = closed_alike t x.0 y.0 x.1 y.1 x.2 y.2 in
      x.5 (alike.2 x.3 ∙ y.5)

  -- ---- States alike

  abbrev AreOne : State t → State t → Type 0
  AreOne s r = s ≡ r

  determinate_one : (o p : Open t) (c d : ℕ) → StateOf P limit t (determinate o c) → StateOf P limit t (determinate p d)
      → AreOne (determinate o c) (determinate p d)
  determinate_one o p c d x y =
      let here : IsSole t y.0 o c = sole_moved x.0 y.0 x.1 y.1 x.2.0 y.2.0 o c x.3 in
      let there : IsSole t x.0 p d = sole_moved y.0 x.0 y.1 x.1 y.2.0 x.2.0 p d y.3 in
      elim (order_or t o p) [
        | inl same ↦
            let clauses : c ≡ d = y.3.1 c (subst (λ (q : Open t). CandidateOf t y.0 q c) same here.0) in
            ap (λ (q : Open t). determinate q c) same ∙ ap (λ (e : ℕ). determinate p e) clauses
        | inr (inl first) ↦ absurd (y.5 o c first here x.4)
        | inr (inr second) ↦ absurd (x.5 p d second there y.4)
      ]

  over_one_one : (o p : Open t) (c d : ℕ) → StateOf P limit t (over_one o c) → StateOf P limit t (over_one p d)
      → AreOne (over_one o c) (over_one p d)
  over_one_one o p c d x y =
      let here : IsSole t y.0 o c = sole_moved x.0 y.0 x.1 y.1 x.2.0 y.2.0 o c x.4 in
      let there : IsSole t x.0 p d = sole_moved y.0 x.0 y.1 x.1 y.2.0 x.2.0 p d y.4 in
      elim (order_or t o p) [
        | inl same ↦
            let clauses : c ≡ d = y.4.1 c (subst (λ (q : Open t). CandidateOf t y.0 q c) same here.0) in
            ap (λ (q : Open t). over_one q c) same ∙ ap (λ (e : ℕ). over_one p e) clauses
        | inr (inl first) ↦ absurd (y.5 o c first here)
        | inr (inr second) ↦ absurd (x.5 p d second there)
      ]

  -- candidates of the leftmost goal of a Shut tree
  shut_moved : (o p : Open t) (es ds : List Equation) (gs ws : List Arithmetic) → ShutAt t o es gs → ShutAt t p ds ws → (c : ℕ)
      → CandidateOf t es o c → CandidateOf t ds p c
  shut_moved o p es ds gs ws x y c k =
      let same : o ≡ p = leftmost_same t o p x.1 y.1 in
      subst (λ (q : Open t). CandidateOf t ds q c) same (moved es ds gs ws x.2 y.2 o c k)

  over_all_one : (o p : Open t) (c d : ℕ) → StateOf P limit t (over_all o c) → StateOf P limit t (over_all p d)
      → AreOne (over_all o c) (over_all p d)
  over_all_one o p c d x y =
      let same : o ≡ p = leftmost_same t o p x.2.1 y.2.1 in
      let one = x.4.1 d (shut_moved p o y.0 x.0 y.1 x.1 y.2 x.2 d y.4.0) in
      let other = y.4.1 c (shut_moved o p x.0 y.0 x.1 y.1 x.2 y.2 c x.4.0) in
      let clauses : c ≡ d = omega arith in
      ap (λ (q : Open t). over_all q c) same ∙ ap (λ (e : ℕ). over_all p e) clauses

  fork_one : (o p : Open t) (cs ds : List ℕ) (a b : Option ℕ) → StateOf P limit t (fork o cs a) → StateOf P limit t (fork p ds b)
      → AreOne (fork o cs a) (fork p ds b)
  fork_one o p cs ds a b x y =
      let same : o ≡ p = leftmost_same t o p x.2.1 y.2.1 in
      let to : (c : ℕ) → CandidateOf t x.0 o c → CandidateOf t y.0 p c = shut_moved o p x.0 y.0 x.1 y.1 x.2 y.2 in
      let fro : (c : ℕ) → CandidateOf t y.0 p c → CandidateOf t x.0 o c = shut_moved p o y.0 x.0 y.1 x.1 y.2 x.2 in
      let clauses : cs ≡ ds = same_elements (λ (c d : ℕ). c < d) (λ c d l k. absurd (omega arith)) cs ds x.4 y.4
      (λ c h. let k = (x.5 c).0 h in (y.5 c).1 (to c k.0, k.1)) (λ c h. let k = (y.5 c).0 h in (x.5 c).1 (fro c k.0, k.1)) in
      let cuts : a ≡ b = first_same (λ d. CandidateOf t x.0 o d × (Fits limit t d → ⊥))
      (λ d. CandidateOf t y.0 p d × (Fits limit t d → ⊥)) a b (λ c k. (to c k.0, k.1)) (λ c k. (fro c k.0, k.1)) x.6 y.6 in
      ap (λ (q : Open t). fork q cs a) same ∙ ap (λ (ls : List ℕ). fork p ls a) clauses ∙ ap (λ (e : Option ℕ). fork p ds e) cuts

  -- A tree has at most one state.
  pub one_state : (s r : State t) → StateOf P limit t s → StateOf P limit t r → s ≡ r
  one_state failed failed x y = refl
  one_state failed (determinate p d) x y = absurd (lives_not_dead y.0 y.1 y.2 x)
  one_state failed (over_one p d) x y = absurd (lives_not_dead y.0 y.1 y.2 x)
  one_state failed (over_all p d) x y = absurd (dead_not_shut x y.2.0)
  one_state failed (fork p ds b) x y = absurd (dead_not_shut x y.2.0)
  one_state failed floundered x y = absurd (whole_not_dead y.0 y.1 y.2 y.3 y.4 x)
  one_state failed answer x y = absurd (whole_not_dead y.0 y.1 y.2 y.3 y.4 x)
  one_state (determinate o c) failed x y = absurd (lives_not_dead x.0 x.1 x.2 y)
  one_state (determinate o c) (determinate p d) x y = determinate_one o p c d x y
  one_state (determinate o c) (over_one p d) x y = absurd (y.3 o c (sole_moved x.0 y.0 x.1 y.1 x.2.0 y.2.0 o c x.3) x.4)
  one_state (determinate o c) (over_all p d) x y = absurd (sole_not_shut x.0 x.1 x.2.0 o c x.3 y.2.0)
  one_state (determinate o c) (fork p ds b) x y = absurd (sole_not_shut x.0 x.1 x.2.0 o c x.3 y.2.0)
  one_state (determinate o c) floundered x y = absurd (whole_has_none t y.4 o)
  one_state (determinate o c) answer x y = absurd (whole_has_none t y.4 o)
  one_state (over_one o c) failed x y = absurd (lives_not_dead x.0 x.1 x.2 y)
  one_state (over_one o c) (determinate p d) x y = absurd (x.3 p d (sole_moved y.0 x.0 y.1 x.1 y.2.0 x.2.0 p d y.3) y.4)
  one_state (over_one o c) (over_one p d) x y = over_one_one o p c d x y
  one_state (over_one o c) (over_all p d) x y = absurd (sole_not_shut x.0 x.1 x.2.0 o c x.4 y.2.0)
  one_state (over_one o c) (fork p ds b) x y = absurd (sole_not_shut x.0 x.1 x.2.0 o c x.4 y.2.0)
  one_state (over_one o c) floundered x y = absurd (whole_has_none t y.4 o)
  one_state (over_one o c) answer x y = absurd (whole_has_none t y.4 o)
  one_state (over_all o c) failed x y = absurd (dead_not_shut y x.2.0)
  one_state (over_all o c) (determinate p d) x y = absurd (sole_not_shut y.0 y.1 y.2.0 p d y.3 x.2.0)
  one_state (over_all o c) (over_one p d) x y = absurd (sole_not_shut y.0 y.1 y.2.0 p d y.4 x.2.0)
  one_state (over_all o c) (over_all p d) x y = over_all_one o p c d x y
  one_state (over_all o c) (fork p ds b) x y = absurd (fits_or_none o p c c ds b x y)
  one_state (over_all o c) floundered x y = absurd (whole_has_none t y.4 o)
  one_state (over_all o c) answer x y = absurd (whole_has_none t y.4 o)
  one_state (fork o cs a) failed x y = absurd (dead_not_shut y x.2.0)
  one_state (fork o cs a) (determinate p d) x y = absurd (sole_not_shut y.0 y.1 y.2.0 p d y.3 x.2.0)
  one_state (fork o cs a) (over_one p d) x y = absurd (sole_not_shut y.0 y.1 y.2.0 p d y.4 x.2.0)
  one_state (fork o cs a) (over_all p d) x y = absurd (fits_or_none p o d d cs a y x)
  one_state (fork o cs a) (fork p ds b) x y = fork_one o p cs ds a b x y
  one_state (fork o cs a) floundered x y = absurd (whole_has_none t y.4 o)
  one_state (fork o cs a) answer x y = absurd (whole_has_none t y.4 o)
  one_state floundered failed x y = absurd (whole_not_dead x.0 x.1 x.2 x.3 x.4 y)
  one_state floundered (determinate p d) x y = absurd (whole_has_none t x.4 p)
  one_state floundered (over_one p d) x y = absurd (whole_has_none t x.4 p)
  one_state floundered (over_all p d) x y = absurd (whole_has_none t x.4 p)
  one_state floundered (fork p ds b) x y = absurd (whole_has_none t x.4 p)
  one_state floundered floundered x y = refl
  one_state floundered answer x y = absurd (waits_or_not x y)
  one_state answer failed x y = absurd (whole_not_dead x.0 x.1 x.2 x.3 x.4 y)
  one_state answer (determinate p d) x y = absurd (whole_has_none t x.4 p)
  one_state answer (over_one p d) x y = absurd (whole_has_none t x.4 p)
  one_state answer (over_all p d) x y = absurd (whole_has_none t x.4 p)
  one_state answer (fork p ds b) x y = absurd (whole_has_none t x.4 p)
  one_state answer floundered x y = absurd (waits_or_not y x)
  one_state answer answer x y = refl
