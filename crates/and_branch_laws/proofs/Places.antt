-- The places of a tree that is written down: their clauses, their frames, and the paths of its open goals.
use Rattle.std.proofs.Common.{ℕ, ◌≡◌, ◌+◌, ◌≤◌, ◌<◌, List, [], ◌∷◌, ◌++◌, refl, ap, sym, ◌∙◌, subst, inl, inr, ◌⊎◌, arith, suc}
use Rattle.std.proofs.Common.{Contains}
use Rattle.and_model.specs.Terms.{Path}
use Rattle.and_model.specs.Programs.{Program, Item, call, equal, arithmetic, fail, clause_at, clause_weight}
use Rattle.and_model.specs.Trees.{Agenda, end, goal, equation, reckoning, agenda, Tree, QueryTree, done, left, by, equate, reckon, Open}
use Rattle.and_model.specs.Trees.{path, reduce, weight}
use Rattle.and_model.specs.Reductions.{Reduction, PlaceHas, query, reduced, Makes, none, one_more}
use Rattle.and_model.specs.Stands.{ClauseHas}
use Rattle.and_laws.specs.Paths.{At}
use Rattle.and_laws.proofs.PrefixLemmas.{not_empty}
use Rattle.and_laws.proofs.Agreement.{query_apart}
use Rattle.and_laws.proofs.Placing.{Writes, writes_made, place_more, node_bounds, node_once}
use Rattle.and_laws.proofs.Order.{reduce_weight, clause_weighs}
use Rattle.and_laws.proofs.OpenPaths.{open_free}
use Rattle.and_laws.proofs.Ordered.{contains_none, middle_cases, middle_more}

-- ---- Places and their clauses

-- Each place has a clause,
pub place_clause : (rs : List Reduction) (n : ℕ) (q : Path) → PlaceHas rs n q → (c : ℕ) × ClauseHas rs n c
place_clause rs n q query = (0, inl (refl, refl))
place_clause rs n q (reduced r p h place) = (r.clause, inr (r, h, refl, refl))

-- and one alone,
pub clause_once : (P : Program) (rs : List Reduction) (t : QueryTree P) → Makes P rs t → (n c d : ℕ) → ClauseHas rs n c → ClauseHas rs n d
    → c ≡ d
clause_once P rs t m n c d (inl a) (inl b) = a.1 ∙ sym b.1
clause_once P rs t m n c d (inl a) (inr y) = absurd (omega (arith, (node_bounds P rs t m y.0 y.1).0, clause_weighs P.query, a.0, y.2))
clause_once P rs t m n c d (inr x) (inl b) = absurd (omega (arith, (node_bounds P rs t m x.0 x.1).0, clause_weighs P.query, b.0, x.2))
clause_once P rs t m n c d (inr x) (inr y) =
    let same : x.0 ≡ y.0 = node_once P rs t m x.0 y.0 x.1 y.1 (x.2 ∙ sym y.2) in
    sym x.3 ∙ ap (λ (r : Reduction). r.clause) same ∙ y.3

-- and where a clause stands is a path.
pub clause_place : (P : Program) (rs : List Reduction) (t : QueryTree P) → Makes P rs t → (n c : ℕ) → ClauseHas rs n c → (q : Path)
    × PlaceHas rs n q
clause_place P rs t m n c (inl a) = ([], subst (λ k. PlaceHas rs k []) (sym a.0) query)
clause_place P rs t m n c (inr x) = let f = reduction_place P rs t m x.0 x.1 in (f.0, subst (λ k. PlaceHas rs k f.0) x.2 f.1)
  where
    reduction_place : (P : Program) (rs : List Reduction) (t : QueryTree P) → Makes P rs t → (x : Reduction) → Contains rs x → (q : Path)
        × PlaceHas rs x.node q
    reduction_place P rs t none x h = absurd (contains_none x h)
    reduction_place P rs t (one_more front back all u r o k old taken_call number is_all) x h =
        let more : (y : Reduction) → Contains (front ++ back) y
        → Contains all y = λ y i. subst (λ l. Contains l y) (sym is_all) (middle_more front back r y i) in
        elim (middle_cases front back r x (subst (λ l. Contains l x) is_all h)) [
          | inr i ↦ let f = reduction_place P (front ++ back) u old x i in (f.0, place_more (front ++ back) all more x.node f.0 f.1)
          | inl e ↦ (
            taken_call.0 ++ x.item ∷ [],
            reduced x taken_call.0 h
                (subst (λ k. PlaceHas all k taken_call.0) (sym (ap (λ (y : Reduction). y.parent) e))
                (place_more (front ++ back) all more r.parent taken_call.0 taken_call.1)),
          )
        ]

-- More reductions take no clause away,
pub clause_more : (rs qs : List Reduction) → ((x : Reduction) → Contains rs x → Contains qs x) → (n c : ℕ) → ClauseHas rs n c
    → ClauseHas qs n c
clause_more rs qs f n c (inl a) = inl a
clause_more rs qs f n c (inr x) = inr (x.0, f x.0 x.1, x.2, x.3)

-- and one more adds one.
pub clause_cases : (front back : List Reduction) (r : Reduction) (n c : ℕ) → ClauseHas (front ++ r ∷ back) n c
    → ((n ≡ r.node) × (c ≡ r.clause)) ⊎ ClauseHas (front ++ back) n c
clause_cases front back r n c (inl a) = inr (inl a)
clause_cases front back r n c (inr x) = elim (middle_cases front back r x.0 x.1) [
  | inl e ↦ inl (sym x.2 ∙ ap (λ (y : Reduction). y.node) e, sym x.3 ∙ ap (λ (y : Reduction). y.clause) e)
  | inr i ↦ inr (inr (x.0, i, x.2, x.3))
]

-- ---- Frames lie side by side

-- A place's frame ends within the tree's weight,
pub frame_within : (P : Program) (rs : List Reduction) (t : QueryTree P) → Makes P rs t → (n c : ℕ) → ClauseHas rs n c
    → n + clause_weight (clause_at P c) ≤ weight t
frame_within P rs t none n c (inl a) = let e : clause_weight (clause_at P c) ≡ clause_weight P.query =
    ap (λ k. clause_weight (clause_at P k)) a.1 in omega (arith, a.0, e)
frame_within P rs t none n c (inr x) = absurd (contains_none x.0 x.1)
frame_within P rs t (one_more front back all u r o k old taken_call number is_all) n c h =
    let grows : weight (reduce u o r.clause k) ≡ weight u + clause_weight (clause_at P r.clause) =
    omega (arith, reduce_weight u o r.clause k) in
    elim (clause_cases front back r n c (subst (λ l. ClauseHas l n c) is_all h)) [
      | inl e ↦ let same : clause_weight (clause_at P c) ≡ clause_weight (clause_at P r.clause) =
          ap (λ j. clause_weight (clause_at P j)) e.1 in omega (arith, e.0, number, grows, same)
      | inr i ↦ omega (arith, frame_within P (front ++ back) u old n c i, grows)
    ]

-- and before the next one begins.
pub frames_apart : (P : Program) (rs : List Reduction) (t : QueryTree P) → Makes P rs t → (n c m d : ℕ) → ClauseHas rs n c
    → ClauseHas rs m d → n < m → n + clause_weight (clause_at P c) ≤ m
frames_apart P rs t none n c m d (inl a) (inl b) l = absurd (omega (arith, a.0, b.0, l))
frames_apart P rs t none n c m d (inl a) (inr y) l = absurd (contains_none y.0 y.1)
frames_apart P rs t none n c m d (inr x) k l = absurd (contains_none x.0 x.1)
frames_apart P rs t (one_more front back all u r o k old taken_call number is_all) n c m d h i l =
    elim (clause_cases front back r n c (subst (λ x. ClauseHas x n c) is_all h)) [
      | inl e ↦ elim (clause_cases front back r m d (subst (λ x. ClauseHas x m d) is_all i)) [
        | inl f ↦ absurd (omega (arith, e.0, f.0, l))
        | inr j ↦ absurd (omega (arith, frame_within P (front ++ back) u old m d j, e.0, number, l))
      ]
      | inr g ↦ elim (clause_cases front back r m d (subst (λ x. ClauseHas x m d) is_all i)) [
        | inl f ↦ omega (arith, frame_within P (front ++ back) u old n c g, f.0, number)
        | inr j ↦ frames_apart P (front ++ back) u old n c m d g j l
      ]
    ]

-- ---- The path of an open goal is no place's

pub placed_at : (P : Program) (rs : List Reduction) (t : QueryTree P) → Makes P rs t → (n : ℕ) (q : Path) → PlaceHas rs n q → (q ≡ [])
    ⊎ ((d : ℕ) × At t q d)
placed_at P rs t m n q query = inl refl
placed_at P rs t m n q (reduced r p h place) =
    let writes : Writes rs (p ++ r.item ∷ []) r.clause = (r, h, refl, (p, place, refl)) in
    inr (r.clause, writes_made P rs t m (p ++ r.item ∷ []) r.clause writes)

-- the goals' paths are each some path and then an item
abbrev AreLonger : Agenda → Type 0
AreLonger end = Unit {0}
AreLonger (goal q g rest) = ((p : Path) × (i : ℕ) × (q ≡ p ++ i ∷ [])) × AreLonger rest
AreLonger (equation a b rest) = AreLonger rest
AreLonger (reckoning a rest) = AreLonger rest

body_longer : (q : Path) (i : ℕ) (items : List Item) (rest : Agenda) → AreLonger rest → AreLonger (agenda q i items rest)
body_longer q i [] rest l = l
body_longer q i (call g ∷ items) rest l = ((q, i, refl), body_longer q (suc i) items rest l)
body_longer q i (equal a b ∷ items) rest l = body_longer q (suc i) items rest l
body_longer q i (arithmetic a ∷ items) rest l = body_longer q (suc i) items rest l
body_longer q i (fail ∷ items) rest l = body_longer q (suc i) items rest l

-- so are those of open goals
open_longer : {P : Program} {ag : Agenda} (t : Tree P ag) (o : Open t) → AreLonger ag → (p : Path) × (i : ℕ) × (path t o ≡ p ++ i ∷ [])
open_longer done o l = elim o [ ]
open_longer (left t) (inl u) l = l.0
open_longer (left t) (inr o) l = open_longer t o l.1
open_longer {P} (by {q = q} {rest = rest} c h t) o l = open_longer t o (body_longer q 0 (clause_at P c).body rest l.1)
open_longer (equate t) o l = open_longer t o l
open_longer (reckon t) o l = open_longer t o l

pub open_not_empty : (P : Program) (t : QueryTree P) (o : Open t) → [] ≡ path t o → ⊥
open_not_empty P t o e = let l = open_longer t o (body_longer [] 0 P.query.body end tt) in not_empty l.0 l.1 (e ∙ l.2)

-- No place has the path of an open goal.
pub place_not_open : (P : Program) (rs : List Reduction) (t : QueryTree P) → Makes P rs t → (o : Open t) (n : ℕ) (q : Path)
    → PlaceHas rs n q → q ≡ path t o → ⊥
place_not_open P rs t m o n q place e = elim (placed_at P rs t m n q place) [
  | inl root ↦ open_not_empty P t o (sym root ∙ e)
  | inr x ↦ open_free t o x.0 (query_apart P) (subst (λ z. At t z x.0) e x.1)
]
