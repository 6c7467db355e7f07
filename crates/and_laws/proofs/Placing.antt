-- Lists of reductions: each place has a number of its own, above its parent's, and a list makes one tree, in whatever order it is written.
use Rattle.std.proofs.Common.{ℕ, ◌≡◌, ◌+◌, ◌≤◌, ◌<◌, ◌↔◌, List, [], ◌∷◌, ◌++◌, refl, ap, sym, ◌∙◌, subst, inl, inr, ◌⊎◌, arith, Contains}
use Rattle.std.proofs.lemmas.List.Elements.{Contains-append_left, Contains-append_right, Contains-append_cases}
use Rattle.and_model.specs.Terms.{Path}
use Rattle.and_model.specs.Programs.{Program, clause_at, clause_weight, Of}
use Rattle.and_model.specs.Trees.{Agenda, end, goal, equation, reckoning, Tree, QueryTree, query_agenda, blank, done, left, by, equate, reckon, Open, path}
use Rattle.and_model.specs.Trees.{call_of, reduce, weight}
use Rattle.and_model.specs.Reductions.{Reduction, PlaceHas, query, reduced, CallHas, Makes, none, one_more}
use Rattle.and_laws.specs.Paths.{At}
use Rattle.and_laws.proofs.Order.{reduce_above, reduce_weight, clause_weighs}
use Rattle.and_laws.proofs.Agreement.{at_fresh, below_agrees, same_paths, query_apart}
use Rattle.and_laws.proofs.Ordered.{contains_first, contains_more, contains_none, contains_cases}

-- ---- Lists with one element more

middle_cases : {X : Type 0} (front back : List X) (x y : X) → Contains (front ++ x ∷ back) y → (y ≡ x) ⊎ Contains (front ++ back) y
middle_cases front back x y h = elim (Contains-append_cases front (x ∷ back) y h) [
  | inl i ↦ inr (Contains-append_left front back y i)
  | inr i ↦ elim (contains_cases x y back i) [ inl e ↦ inl e | inr j ↦ inr (Contains-append_right front back y j) ]
]

middle_more : {X : Type 0} (front back : List X) (x y : X) → Contains (front ++ back) y → Contains (front ++ x ∷ back) y
middle_more front back x y h = elim (Contains-append_cases front back y h) [
  | inl i ↦ Contains-append_left front (x ∷ back) y i
  | inr i ↦ Contains-append_right front (x ∷ back) y (contains_more x y back i)
]

middle_has : {X : Type 0} (front back : List X) (x : X) → Contains (front ++ x ∷ back) x
middle_has front back x = Contains-append_right front (x ∷ back) x (contains_first x back)

-- ---- Numbers of places

-- a place's number is at least the query's weight, and below the tree's
pub node_bounds : (P : Program) (rs : List Reduction) (t : QueryTree P) → Makes P rs t → (x : Reduction) → Contains rs x
    → (clause_weight P.query ≤ x.node) × (x.node < weight t)
node_bounds P rs t none x h = absurd (contains_none x h)
node_bounds P rs t (one_more front back all u r o k m call number is_all) x h =
    let grows : weight (reduce u o r.clause k) ≡ weight u + clause_weight (clause_at P r.clause) = omega (arith, reduce_weight u o r.clause k) in
    elim (middle_cases front back r x (subst (λ l. Contains l x) is_all h)) [
      | inl e ↦ (let same : x.node ≡ r.node = ap (λ (y : Reduction). y.node) e in (
        omega (arith, same, number),
        omega (arith, same, number, grows, clause_weighs (clause_at P r.clause)),
      ))
      | inr i ↦ (let b = node_bounds P (front ++ back) u m x i in (b.0, omega (arith, b.1, grows)))
    ]

-- two reductions of a list with one number are one
pub node_once : (P : Program) (rs : List Reduction) (t : QueryTree P) → Makes P rs t → (x y : Reduction) → Contains rs x → Contains rs y
    → x.node ≡ y.node → x ≡ y
node_once P rs t none x y h k e = absurd (contains_none x h)
node_once P rs t (one_more front back all u r o c m call number is_all) x y h k e =
    elim (middle_cases front back r x (subst (λ l. Contains l x) is_all h)) [
      | inl i ↦ elim (middle_cases front back r y (subst (λ l. Contains l y) is_all k)) [
        | inl j ↦ i ∙ sym j
        | inr j ↦ absurd (omega (arith, (node_bounds P (front ++ back) u m y j).1, e, ap (λ (z : Reduction). z.node) i, number))
      ]
      | inr i ↦ elim (middle_cases front back r y (subst (λ l. Contains l y) is_all k)) [
        | inl j ↦ absurd (omega (arith, (node_bounds P (front ++ back) u m x i).1, e, ap (λ (z : Reduction). z.node) j, number))
        | inr j ↦ node_once P (front ++ back) u m x y i j e
      ]
    ]

-- where all places' numbers are below one, so is a place's that has a path
place_below : (rs : List Reduction) (w : ℕ) → 0 < w → ((x : Reduction) → Contains rs x → x.node < w) → (n : ℕ) (q : Path) → PlaceHas rs n q → n < w
place_below rs w pos all n q query = pos
place_below rs w pos all n q (reduced r p h place) = all r h

-- a place's number is above that of the place whose call it took
pub parent_below : (P : Program) (rs : List Reduction) (t : QueryTree P) → Makes P rs t → (x : Reduction) → Contains rs x → x.parent < x.node
parent_below P rs t none x h = absurd (contains_none x h)
parent_below P rs t (one_more front back all u r o k m call number is_all) x h =
    elim (middle_cases front back r x (subst (λ l. Contains l x) is_all h)) [
      | inr i ↦ parent_below P (front ++ back) u m x i
      | inl e ↦
          let low : r.parent < weight u = place_below (front ++ back) (weight u) (omega (arith, clause_weighs P.query))
          (λ y j. (node_bounds P (front ++ back) u m y j).1) r.parent call.0 call.1 in
          omega (arith, low, number, ap (λ (y : Reduction). y.node) e, ap (λ (y : Reduction). y.parent) e)
    ]

-- ---- Paths of places

-- more reductions give no place another path
pub place_more : (rs qs : List Reduction) → ((x : Reduction) → Contains rs x → Contains qs x) → (n : ℕ) (q : Path) → PlaceHas rs n q → PlaceHas qs n q
place_more rs qs f n q query = query
place_more rs qs f n q (reduced r p h place) = reduced r p (f r h) (place_more rs qs f r.parent p place)

-- and a reduction with a larger number is not needed for the path
place_fewer : (P : Program) (front back : List Reduction) (t : QueryTree P) (r : Reduction) → Makes P (front ++ back) t → weight t ≤ r.node
    → (n : ℕ) (q : Path) → PlaceHas (front ++ r ∷ back) n q → n < r.node → PlaceHas (front ++ back) n q
place_fewer P front back t r m w n q query l = query
place_fewer P front back t r m w n q (reduced x p h place) l =
    elim (middle_cases front back r x h) [
      | inl e ↦ absurd (omega (arith, l, ap (λ (y : Reduction). y.node) e))
      | inr i ↦
          let low : x.parent < r.node = omega (arith, parent_below P (front ++ back) t m x i, l) in
          reduced x p i (place_fewer P front back t r m w x.parent p place low)
    ]

-- a place has one path
pub place_once : (P : Program) (rs : List Reduction) (t : QueryTree P) → Makes P rs t → (n k : ℕ) → n ≡ k → (q p : Path) → PlaceHas rs n q
    → PlaceHas rs k p → q ≡ p
place_once P rs t m n k e q p query query = refl
place_once P rs t m n k e q p query (reduced x s h place) = absurd (omega (arith, (node_bounds P rs t m x h).0, clause_weighs P.query, e))
place_once P rs t m n k e q p (reduced x s h place) query = absurd (omega (arith, (node_bounds P rs t m x h).0, clause_weighs P.query, e))
place_once P rs t m n k e q p (reduced x s h place) (reduced y r i other) =
    let same : x ≡ y = node_once P rs t m x y h i e in
    let inside : s ≡ r = place_once P rs t m x.parent y.parent (ap (λ (z : Reduction). z.parent) same) s r place other in
    ap (λ (l : Path). l ++ x.item ∷ []) inside ∙ ap (λ (z : Reduction). r ++ z.item ∷ []) same

-- ---- The tree that a list makes

at_blank : (P : Program) (ag : Agenda) (p : Path) (d : ℕ) → At (blank {P = P} ag) p d → ⊥
at_blank P end p d a = a
at_blank P (goal q g rest) p d a = at_blank P rest p d a
at_blank P (equation x y rest) p d a = at_blank P rest p d a
at_blank P (reckoning x rest) p d a = at_blank P rest p d a

-- where a goal was reduced, the tree has the clause there, and its other clauses as before
at_reduced : {P : Program} {ag : Agenda} (t : Tree P ag) (o : Open t) (c : ℕ) (h : Of P (call_of t o) c) (p : Path) (d : ℕ) → At (reduce t o c h) p d
    → ((p ≡ path t o) × (d ≡ c)) ⊎ At t p d
at_reduced done o c h p d a = elim o [ ]
at_reduced {P} (left {q = q} t) (inl u) c h p d a = elim a [ inl e ↦ inl e | inr b ↦ inr (at_fresh q 0 (clause_at P c).body t p d b) ]
at_reduced (left t) (inr o) c h p d a = at_reduced t o c h p d a
at_reduced (by b k t) o c h p d a = elim a [ inl e ↦ inr (inl e) | inr r ↦ elim (at_reduced t o c h p d r) [ inl e ↦ inl e | inr s ↦ inr (inr s) ] ]
at_reduced (equate t) o c h p d a = at_reduced t o c h p d a
at_reduced (reckon t) o c h p d a = at_reduced t o c h p d a

reduced_at : {P : Program} {ag : Agenda} (t : Tree P ag) (o : Open t) (c : ℕ) (h : Of P (call_of t o) c) → At (reduce t o c h) (path t o) c
reduced_at done o c h = elim o [ ]
reduced_at (left t) (inl u) c h = inl (refl, refl)
reduced_at (left t) (inr o) c h = reduced_at t o c h
reduced_at (by b k t) o c h = inr (reduced_at t o c h)
reduced_at (equate t) o c h = reduced_at t o c h
reduced_at (reckon t) o c h = reduced_at t o c h

-- some reduction writes down this clause at this path
abbrev pub Writes : List Reduction → Path → ℕ → Type 0
Writes rs p d = (x : Reduction) × Contains rs x × (d ≡ x.clause) × CallHas rs x.parent x.item p

writes_more : (rs qs : List Reduction) → ((x : Reduction) → Contains rs x → Contains qs x) → (p : Path) (d : ℕ) → Writes rs p d → Writes qs p d
writes_more rs qs f p d (x, h, e, (q, place, is_path)) = (x, f x h, e, (q, place_more rs qs f x.parent q place, is_path))

-- The tree has the clauses that the reductions write down,
pub made_writes : (P : Program) (rs : List Reduction) (t : QueryTree P) → Makes P rs t → (p : Path) (d : ℕ) → At t p d → Writes rs p d
made_writes P rs t none p d a = absurd (at_blank P (query_agenda P) p d a)
made_writes P rs t (one_more front back all u r o k m call number is_all) p d a =
    let up : (x : Reduction) → Contains (front ++ back) x → Contains all x = λ x i. subst (λ l. Contains l x) (sym is_all) (middle_more front back r x i) in
    elim (at_reduced u o r.clause k p d a) [
      | inl e ↦ (
        r,
        subst (λ l. Contains l r) (sym is_all) (middle_has front back r),
        e.1,
        (call.0, place_more (front ++ back) all up r.parent call.0 call.1, e.0 ∙ call.2),
      )
      | inr b ↦ writes_more (front ++ back) all up p d (made_writes P (front ++ back) u m p d b)
    ]

-- and no others.
pub writes_made : (P : Program) (rs : List Reduction) (t : QueryTree P) → Makes P rs t → (p : Path) (d : ℕ) → Writes rs p d → At t p d
writes_made P rs t none p d (x, h, e, call) = absurd (contains_none x h)
writes_made P rs t (one_more front back all u r o k m call number is_all) p d (x, h, e, (q, place, is_path)) =
    let in_front : PlaceHas (front ++ r ∷ back) x.parent q = subst (λ l. PlaceHas l x.parent q) is_all place in
    elim (middle_cases front back r x (subst (λ l. Contains l x) is_all h)) [
      | inl same ↦
          let parents : x.parent ≡ r.parent = ap (λ (y : Reduction). y.parent) same in
          let low : r.parent < weight u = place_below (front ++ back) (weight u) (omega (arith, clause_weighs P.query))
          (λ y j. (node_bounds P (front ++ back) u m y j).1) r.parent call.0 call.1 in
          let fewer : PlaceHas (front ++ back) x.parent q =
          place_fewer P front back u r m (omega (arith, number)) x.parent q in_front (omega (arith, parents, low, number)) in
          let paths : q ≡ call.0 = place_once P (front ++ back) u m x.parent r.parent parents q call.0 fewer call.1 in
          let here : p ≡ path u o = is_path ∙ ap (λ (l : Path). l ++ x.item ∷ []) paths ∙ ap (λ (y : Reduction). call.0 ++ y.item ∷ []) same ∙ sym call.2 in
          let clauses : d ≡ r.clause = e ∙ ap (λ (y : Reduction). y.clause) same in
          subst (λ z. At (reduce u o r.clause k) z d) (sym here)
          (subst (λ z. At (reduce u o r.clause k) (path u o) z) (sym clauses) (reduced_at u o r.clause k))
      | inr i ↦
          let low : x.parent < r.node = omega (arith, parent_below P (front ++ back) u m x i, (node_bounds P (front ++ back) u m x i).1, number) in
          let fewer : PlaceHas (front ++ back) x.parent q = place_fewer P front back u r m (omega (arith, number)) x.parent q in_front low in
          below_agrees (reduce_above u o r.clause k) p d (writes_made P (front ++ back) u m p d (x, i, e, (q, fewer, is_path)))
    ]

-- So lists of the same reductions make one tree.
pub makes_same : (P : Program) (rs qs : List Reduction) (t u : QueryTree P) → Makes P rs t → Makes P qs u
    → ((x : Reduction) → Contains rs x ↔ Contains qs x) → t ≡ u
makes_same P rs qs t u m n same =
    same_paths t u (query_apart P)
    (λ p d a. writes_made P qs u n p d (writes_more rs qs (λ x. (same x).0) p d (made_writes P rs t m p d a)))
    (λ p d a. writes_made P rs t m p d (writes_more qs rs (λ x. (same x).1) p d (made_writes P qs u n p d a)))
