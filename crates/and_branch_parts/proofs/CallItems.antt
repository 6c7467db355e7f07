-- The open goals of a tree that is written down: their items are calls, and their places have numbers of their own.
use Rattle.std.proofs.Common.{ℕ, suc, ◌≡◌, ◌+◌, ◌<◌, ◌≤◌, List, [], ◌∷◌, ◌++◌}
use Rattle.std.proofs.Common.{get_or, refl, ap, sym, ◌∙◌, subst, inl, inr, ◌⊎◌, arith, Contains}
use Rattle.and_model.specs.Terms.{Path, Term}
use Rattle.and_model.specs.Programs.{Program, Item, call, equal, arithmetic, fail, clause_at}
use Rattle.and_model.specs.Trees.{Agenda, end, goal, equation, reckoning, agenda, Tree, QueryTree}
use Rattle.and_model.specs.Trees.{done, left, by, equate, reckon, Open, path, weight}
use Rattle.and_model.specs.Reductions.{Reduction, PlaceHas, query, reduced, Makes, none, one_more}
use Rattle.and_model.specs.Stands.{ClauseHas}
use Rattle.and_laws.specs.Paths.{At}
use Rattle.and_laws.proofs.PrefixLemmas.{same_last, not_empty}
use Rattle.and_laws.proofs.Agreement.{Apart, apart_body, own_body, query_apart}
use Rattle.and_laws.proofs.Placing.{Writes, made_writes, writes_made, place_more, place_once, parent_below}
use Rattle.and_laws.proofs.Order.{clause_weighs}
use Rattle.and_laws.proofs.Ordered.{contains_none, middle_cases, middle_more, middle_has}
use Rattle.and_branch_laws.proofs.Places.{clause_once, place_clause, clause_cases, frame_within}
use Rattle.and_branch_laws.proofs.Places.{place_not_open}

-- ---- Items

-- the path is that of a goal of the agenda
abbrev Listed : Agenda → Path → Type 0
Listed end p = ⊥
Listed (goal q g rest) p = (p ≡ q) ⊎ Listed rest p
Listed (equation a b rest) p = Listed rest p
Listed (reckoning a rest) p = Listed rest p

-- the item of a body in the frame of a path, to which the path of an open goal leads
record ItemAt (body : List Item) (q : Path) (p : Path) : Type 0 where
  pub item : ℕ
  pub path_is : p ≡ q ++ item ∷ []
  pub term : Term
  pub item_is : get_or body item fail ≡ call term

shift : (body items : List Item) (i : ℕ) (x : Item) → ((j : ℕ) → get_or body (i + j) fail ≡ get_or (x ∷ items) j fail) → (j : ℕ)
    → get_or body (suc i + j) fail ≡ get_or items j fail
shift body items i x h j = let e : suc i + j ≡ i + suc j = omega arith in ap (λ (k : ℕ). get_or body k fail) e ∙ h (suc j)

here_is : (body items : List Item) (i : ℕ) (x : Item) → ((j : ℕ) → get_or body (i + j) fail ≡ get_or (x ∷ items) j fail)
    → get_or body i fail ≡ x
here_is body items i x h = let e : i ≡ i + 0 = omega arith in ap (λ (k : ℕ). get_or body k fail) e ∙ h 0

listed_body : (body : List Item) (q : Path) (i : ℕ) (items : List Item) (rest : Agenda) (p : Path)
    → ((j : ℕ) → get_or body (i + j) fail ≡ get_or items j fail) → Listed (agenda q i items rest) p → ItemAt body q p ⊎ Listed rest p
listed_body body q i [] rest p h l = inr l
listed_body body q i (call g ∷ items) rest p h (inl e) =
    inl (record { item = i; path_is = e; term = g; item_is = here_is body items i (call g) h })
listed_body body q i (call g ∷ items) rest p h (inr l) = listed_body body q (suc i) items rest p (shift body items i (call g) h) l
listed_body body q i (equal a b ∷ items) rest p h l = listed_body body q (suc i) items rest p (shift body items i (equal a b) h) l
listed_body body q i (arithmetic a ∷ items) rest p h l = listed_body body q (suc i) items rest p (shift body items i (arithmetic a) h) l
listed_body body q i (fail ∷ items) rest p h l = listed_body body q (suc i) items rest p (shift body items i fail h) l

-- some clause of the tree has the item
record OwnedBy {P : Program} {ag : Agenda} (t : Tree P ag) (p : Path) : Type 0 where
  pub frame : Path
  pub clause : ℕ
  pub at : At t frame clause
  pub item : ItemAt (clause_at P clause).body frame p

under : {P : Program} {ag bg : Agenda} (t : Tree P ag) (u : Tree P bg) (p : Path) → ((q : Path) (d : ℕ) → At t q d → At u q d) → OwnedBy t p
    → OwnedBy u p
under t u p f o = record { frame = o.frame; clause = o.clause; at = f o.frame o.clause o.at; item = o.item }

owned : {P : Program} {ag : Agenda} (t : Tree P ag) (o : Open t) → OwnedBy t (path t o) ⊎ Listed ag (path t o)
owned done o = elim o [ ]
owned (left t) (inl u) = inr (inl refl)
owned (left t) (inr o) = elim (owned t o) [ inl x ↦ inl (under t (left t) (path t o) (λ q d a. a) x) | inr l ↦ inr (inr l) ]
owned {P} (by {q = q} {g = g} {rest = rest} c h t) o = elim (owned t o) [
  | inl x ↦ inl (under t (by {q = q} {g = g} {rest = rest} c h t) (path t o) (λ r d a. inr a) x)
  | inr l ↦ elim (listed_body (clause_at P c).body q 0 (clause_at P c).body rest (path t o)
      (λ j. let e : 0 + j ≡ j = omega arith in ap (λ (k : ℕ). get_or (clause_at P c).body k fail) e) l) [
        | inl x ↦ inl (record { frame = q; clause = c; at = inl (refl, refl); item = x })
        | inr m ↦ inr (inr m)
      ]
]
owned (equate {a = a} {b = b} t) o =
    elim (owned t o) [ inl x ↦ inl (under t (equate {a = a} {b = b} t) (path t o) (λ q d y. y) x) | inr l ↦ inr l ]
owned (reckon {a = a} t) o = elim (owned t o) [ inl x ↦ inl (under t (reckon {a = a} t) (path t o) (λ q d y. y) x) | inr l ↦ inr l ]

-- a path has one clause
at_once : {P : Program} {ag : Agenda} (t : Tree P ag) → Apart ag → (p : Path) (c d : ℕ) → At t p c → At t p d → c ≡ d
at_once done a p c d x y = elim x [ ]
at_once (left t) a p c d x y = at_once t a.1 p c d x y
at_once {P} (by {q = q} {g = g} {rest = rest} k h t) a p c d x y = elim x [
  | inl e ↦ elim y [
    | inl f ↦ e.1 ∙ sym f.1
    | inr f ↦ absurd (own_body q g rest (clause_at P k).body t d a (subst (λ r. At t r d) e.0 f))
  ]
  | inr e ↦ elim y [
    | inl f ↦ absurd (own_body q g rest (clause_at P k).body t c a (subst (λ r. At t r c) f.0 e))
    | inr f ↦ at_once t (apart_body q 0 (clause_at P k).body rest a.0 a.1) p c d e f
  ]
]
at_once (equate t) a p c d x y = at_once t a p c d x y
at_once (reckon t) a p c d x y = at_once t a p c d x y

-- what a place's clause and path are in the tree
place_is : (P : Program) (rs : List Reduction) (t : QueryTree P) → Makes P rs t → (n c : ℕ) (q : Path) → PlaceHas rs n q → ClauseHas rs n c
    → ((q ≡ []) × (c ≡ 0)) ⊎ At t q c
place_is P rs t m n c q query has = inl (refl, clause_once P rs t m 0 c 0 has (inl (refl, refl)))
place_is P rs t m n c q (reduced r p h place) has =
    let writes : Writes rs (p ++ r.item ∷ []) r.clause = (r, h, refl, (p, place, refl)) in
    let clauses : r.clause ≡ c = clause_once P rs t m r.node r.clause c (inr (r, h, refl, refl)) has in
    inr (subst (λ k. At t (p ++ r.item ∷ []) k) clauses (writes_made P rs t m (p ++ r.item ∷ []) r.clause writes))

-- the tree has no clause at the query's path
not_at_root : (P : Program) (rs : List Reduction) (t : QueryTree P) → Makes P rs t → (c : ℕ) → At t [] c → ⊥
not_at_root P rs t m c a = let (x, h, e, (q, place, is_path)) = made_writes P rs t m [] c a in not_empty q x.item is_path

-- An open goal's item is a call.
pub open_is_call : (P : Program) (rs : List Reduction) (t : QueryTree P) → Makes P rs t → (o : Open t) (n c i : ℕ) (q : Path)
    → PlaceHas rs n q → ClauseHas rs n c → path t o ≡ q ++ i ∷ [] → (g : Term) × (get_or (clause_at P c).body i fail ≡ call g)
open_is_call P rs t m o n c i q place has path_is = elim (owned t o) [
  | inl x ↦
      let item = x.item in
      let ends = same_last x.frame q item.item i (sym item.path_is ∙ path_is) in
      let clauses : x.clause ≡ c = elim (place_is P rs t m n c q place has) [
        | inl root ↦ absurd (not_at_root P rs t m x.clause (subst (λ r. At t r x.clause) (ends.0 ∙ root.0) x.at))
        | inr a ↦ at_once t (query_apart P) q x.clause c (subst (λ r. At t r x.clause) ends.0 x.at) a
      ] in (
        item.term,
        ap (λ k. get_or (clause_at P k).body i fail) (sym clauses) ∙ ap (λ k. get_or (clause_at P x.clause).body k fail) (sym ends.1)
            ∙ item.item_is,
      )
  | inr l ↦ elim (listed_body P.query.body [] 0 P.query.body end (path t o)
      (λ j. let e : 0 + j ≡ j = omega arith in ap (λ (k : ℕ). get_or P.query.body k fail) e) l) [
        | inl item ↦
            let ends = same_last [] q item.item i (sym item.path_is ∙ path_is) in
            let clauses : c ≡ 0 = elim (place_is P rs t m n c q place has) [
              | inl root ↦ root.1
              | inr a ↦ absurd (not_at_root P rs t m c (subst (λ r. At t r c) (sym ends.0) a))
            ] in (
              item.term,
              ap (λ k. get_or (clause_at P k).body i fail) clauses ∙ ap (λ k. get_or P.query.body k fail) (sym ends.1)
                  ∙ item.item_is,
            )
        | inr m' ↦ elim m' [ ]
      ]
]

-- ---- Numbers

place_fewer : (P : Program) (front back : List Reduction) (t : QueryTree P) (r : Reduction) → Makes P (front ++ back) t → weight t ≤ r.node
    → (n : ℕ) (q : Path) → PlaceHas (front ++ r ∷ back) n q → n < r.node → PlaceHas (front ++ back) n q
place_fewer P front back t r m w n q query l = query
place_fewer P front back t r m w n q (reduced x p h place) l =
    elim (middle_cases front back r x h) [
      | inl e ↦ absurd (omega (arith, l, ap (λ (y : Reduction). y.node) e))
      | inr i ↦
          let low : x.parent < r.node = omega (arith, parent_below P (front ++ back) t m x i, l) in
          reduced x p i (place_fewer P front back t r m w x.parent p place low)
    ]

-- Two places with one path are one.
pub one_place : (P : Program) (rs : List Reduction) (t : QueryTree P) → Makes P rs t → (n k : ℕ) (q : Path) → PlaceHas rs n q
    → PlaceHas rs k q → n ≡ k
one_place P rs t none n k q x y = root_alone n q x ∙ sym (root_alone k q y)
  where
    root_alone : (m : ℕ) (p : Path) → PlaceHas [] m p → m ≡ 0
    root_alone m p query = refl
    root_alone m p (reduced r s h place) = absurd (contains_none r h)
one_place P rs t (one_more front back all u r o h old taken number is_all) n k q x y =
    let more : (z : Reduction) → Contains (front ++ back) z
    → Contains all z = λ z i. subst (λ l. Contains l z) (sym is_all) (middle_more front back r z i) in
    let there : Contains all r = subst (λ l. Contains l r) (sym is_all) (middle_has front back r) in
    let own : PlaceHas all r.node (path u o) =
    subst (λ (p : Path). PlaceHas all r.node p) (sym taken.2)
    (reduced r taken.0 there (place_more (front ++ back) all more r.parent taken.0 taken.1)) in
    let made : Makes P all t = one_more front back all u r o h old taken number is_all in
    let cases : (j : ℕ) → PlaceHas all j q → (j ≡ r.node) ⊎ (j < r.node) = λ j z.
    (
    let has = place_clause all j q z in
    elim (clause_cases front back r j has.0 (subst (λ l. ClauseHas l j has.0) is_all has.1)) [
      | inl e ↦ inl e.0
      | inr i ↦ inr (omega (arith, frame_within P (front ++ back) u old j has.0 i, number, clause_weighs (clause_at P has.0)))
    ]) in
    let fewer : (j : ℕ) → PlaceHas all j q → j < r.node → PlaceHas (front ++ back) j q =
    λ j z low. place_fewer P front back u r old (omega (arith, number)) j q (subst (λ l. PlaceHas l j q) is_all z) low in
    let clash : (j m : ℕ) → PlaceHas all j q → j ≡ r.node → PlaceHas all m q → m < r.node → ⊥ =
    λ j m z e w low.
    place_not_open P (front ++ back) u old o m q (fewer m w low) (place_once P all t made j r.node e q (path u o) z own) in
    elim (cases n x) [
      | inl a ↦ elim (cases k y) [ inl b ↦ a ∙ sym b | inr b ↦ absurd (clash n k x a y b) ]
      | inr a ↦ elim (cases k y) [
        | inl b ↦ absurd (clash k n y b x a)
        | inr b ↦ one_place P (front ++ back) u old n k q (fewer n x a) (fewer k y b)
      ]
    ]
