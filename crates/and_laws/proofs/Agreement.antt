-- Trees by paths: a tree is below another exactly where that has its clause at each of its paths, and two trees with the same clauses at
-- the same paths are one.
use Rattle.std.proofs.Common.{ℕ, ◌≡◌, ◌≤◌, List, [], ◌∷◌, ◌++◌, append-nil, refl, sym, ◌∙◌, subst, inl, inr, ◌⊎◌, arith, suc}
use Rattle.and_model.specs.Terms.{Path, Term}
use Rattle.and_model.specs.Programs.{Program, Item, call, equal, arithmetic, fail, clause_at, Of}
use Rattle.and_model.specs.Trees.{Agenda, end, goal, equation, reckoning, agenda, query_agenda, Tree, done, left, by, equate, reckon, fresh, Below, both_done}
use Rattle.and_model.specs.Trees.{both_left, both_by, grown, both_equate, both_reckon}
use Rattle.and_model.specs.Prefixes.{IsPrefix}
use Rattle.and_laws.specs.Paths.{At}
use Rattle.and_laws.proofs.PrefixLemmas.{prefix_front, same_after}
use Rattle.and_laws.proofs.Order.{same_trees}

-- the path goes through one of the goals
abbrev pub Under : Agenda → Path → Type 0
Under end p = ⊥
Under (goal q g rest) p = IsPrefix q p ⊎ Under rest p
Under (equation a b rest) p = Under rest p
Under (reckoning a rest) p = Under rest p

-- no path goes through two
abbrev pub Apart : Agenda → Type 0
Apart end = Unit {0}
Apart (goal q g rest) = ((p : Path) → IsPrefix q p → Under rest p → ⊥) × Apart rest
Apart (equation a b rest) = Apart rest
Apart (reckoning a rest) = Apart rest

-- a path through a body's goals goes through the frame and one of the items, or through the rest
under_body : (q : Path) (i : ℕ) (items : List Item) (rest : Agenda) (p : Path) → Under (agenda q i items rest) p
    → ((j : ℕ) × (i ≤ j) × IsPrefix (q ++ j ∷ []) p) ⊎ Under rest p
under_body q i [] rest p u = inr u
under_body q i (call g ∷ items) rest p (inl b) = inl (i, omega arith, b)
under_body q i (call g ∷ items) rest p (inr u) =
    elim (under_body q (suc i) items rest p u) [ inl f ↦ inl (f.0, (let k = f.1 in omega arith), f.2) | inr v ↦ inr v ]
under_body q i (equal a b ∷ items) rest p u =
    elim (under_body q (suc i) items rest p u) [ inl f ↦ inl (f.0, (let k = f.1 in omega arith), f.2) | inr v ↦ inr v ]
under_body q i (arithmetic a ∷ items) rest p u =
    elim (under_body q (suc i) items rest p u) [ inl f ↦ inl (f.0, (let k = f.1 in omega arith), f.2) | inr v ↦ inr v ]
under_body q i (fail ∷ items) rest p u = elim (under_body q (suc i) items rest p u) [ inl f ↦ inl (f.0, (let k = f.1 in omega arith), f.2) | inr v ↦ inr v ]

-- the goals of a body are apart from each other
pub apart_body : (q : Path) (i : ℕ) (items : List Item) (rest : Agenda) → ((p : Path) → IsPrefix q p → Under rest p → ⊥) → Apart rest
    → Apart (agenda q i items rest)
apart_body q i [] rest f a = a
apart_body q i (call g ∷ items) rest f a = (
  λ p b u. elim (under_body q (suc i) items rest p u) [
    | inl x ↦ (let same : i ≡ x.0 = same_after q b.0 x.2.0 i x.0 (sym b.1 ∙ x.2.1) in let k = x.1 in absurd (omega arith))
    | inr v ↦ f p (prefix_front q (i ∷ []) p b) v
  ],
  apart_body q (suc i) items rest f a,
)
apart_body q i (equal b c ∷ items) rest f a = apart_body q (suc i) items rest f a
apart_body q i (arithmetic b ∷ items) rest f a = apart_body q (suc i) items rest f a
apart_body q i (fail ∷ items) rest f a = apart_body q (suc i) items rest f a

-- a tree's clauses stand under its goals
at_under : {P : Program} {ag : Agenda} (t : Tree P ag) (p : Path) (d : ℕ) → At t p d → Under ag p
at_under done p d a = elim a [ ]
at_under (left t) p d a = inr (at_under t p d a)
at_under (by {q = q} c h t) p d (inl e) = inl ([], (let k = e.0 in k ∙ sym (append-nil q)))
at_under {P} (by {q = q} {rest = rest} c h t) p d (inr a) =
    elim (under_body q 0 (clause_at P c).body rest p (at_under t p d a)) [ inl x ↦ inl (prefix_front q (x.0 ∷ []) p x.2) | inr v ↦ inr v ]
at_under (equate t) p d a = at_under t p d a
at_under (reckon t) p d a = at_under t p d a

-- a body before a tree adds no clause,
pub at_fresh : {P : Program} (q : Path) (i : ℕ) (items : List Item) {rest : Agenda} (t : Tree P rest) (p : Path) (d : ℕ) → At (fresh q i items t) p d → At t p d
at_fresh q i [] t p d a = a
at_fresh q i (call g ∷ items) t p d a = at_fresh q (suc i) items t p d a
at_fresh q i (equal b c ∷ items) t p d a = at_fresh q (suc i) items t p d a
at_fresh q i (arithmetic b ∷ items) t p d a = at_fresh q (suc i) items t p d a
at_fresh q i (fail ∷ items) t p d a = at_fresh q (suc i) items t p d a

-- and takes none away
fresh_at : {P : Program} (q : Path) (i : ℕ) (items : List Item) {rest : Agenda} (t : Tree P rest) (p : Path) (d : ℕ) → At t p d → At (fresh q i items t) p d
fresh_at q i [] t p d a = a
fresh_at q i (call g ∷ items) t p d a = fresh_at q (suc i) items t p d a
fresh_at q i (equal b c ∷ items) t p d a = fresh_at q (suc i) items t p d a
fresh_at q i (arithmetic b ∷ items) t p d a = fresh_at q (suc i) items t p d a
fresh_at q i (fail ∷ items) t p d a = fresh_at q (suc i) items t p d a

-- A larger tree has the smaller one's clauses at their paths,
pub below_agrees : {P : Program} {ag : Agenda} {t u : Tree P ag} → Below P ag t u → (p : Path) (d : ℕ) → At t p d → At u p d
below_agrees both_done p d a = a
below_agrees (both_left b) p d a = below_agrees b p d a
below_agrees (both_by c h k b) p d (inl e) = inl e
below_agrees (both_by c h k b) p d (inr a) = inr (below_agrees b p d a)
below_agrees {P} (grown {q = q} c h t b) p d a = inr (below_agrees b p d (fresh_at q 0 (clause_at P c).body t p d a))
below_agrees (both_equate b) p d a = below_agrees b p d a
below_agrees (both_reckon b) p d a = below_agrees b p d a

-- at a goal's own path stands nothing of the rest,
own_path : {P : Program} (q : Path) (g : Term) (rest : Agenda) (t : Tree P rest) (d : ℕ) → Apart (goal q g rest) → At t q d → ⊥
own_path q g rest t d a x = a.0 q ([], sym (append-nil q)) (at_under t q d x)

-- and nothing of the body that took it
pub own_body : {P : Program} (q : Path) (g : Term) (rest : Agenda) (items : List Item) (t : Tree P (agenda q 0 items rest)) (d : ℕ)
    → Apart (goal q g rest) → At t q d → ⊥
own_body q g rest items t d a x = elim (under_body q 0 items rest q (at_under t q d x)) [
  | inl y ↦ longer q y.0 y.2.0 y.2.1
  | inr v ↦ a.0 q ([], sym (append-nil q)) v
]
  where
    longer : (xs : List ℕ) (j : ℕ) (ys : List ℕ) → xs ≡ (xs ++ j ∷ []) ++ ys → ⊥
    longer [] j ys e = cc
    longer (x ∷ xs) j ys e = longer xs j ys (cc)

-- and a tree that has them is larger.
pub agrees_below : {P : Program} {ag : Agenda} (u t : Tree P ag) → Apart ag → ((p : Path) (d : ℕ) → At t p d → At u p d) → Below P ag t u
agrees_below done done a f = both_done
agrees_below (left u) (left t) a f = both_left (agrees_below u t a.1 f)
agrees_below {P} (left {q = q} {g = g} {rest = rest} u) (by c h t) a f = absurd (own_path q g rest u c a (f q c (inl (refl, refl))))
agrees_below {P} (by {q = q} {g = g} {rest = rest} c h u) (left t) a f =
    let items : List Item = (clause_at P c).body in
    grown c h t (agrees_below u (fresh q 0 items t) (apart_body q 0 items rest a.0 a.1) (λ p d x.
    let y : At t p d = at_fresh q 0 items t p d x in
    elim (f p d y) [ inl e ↦ absurd (own_path q g rest t d a (subst (λ z. At t z d) e.0 y)) | inr z ↦ z ]))
agrees_below {P} (by {q = q} {g = g} {rest = rest} c h u) (by d k t) a f =
    let e : d ≡ c = elim (f q d (inl (refl, refl))) [ inl x ↦ x.1 | inr y ↦ absurd (own_body q g rest (clause_at P c).body u d a y) ] in
    (subst (λ z. (k : Of P g z) (t : Tree P (agenda q 0 (clause_at P z).body rest))
    → ((p : Path) (d : ℕ) → At (by {g = g} z k t) p d → At (by {g = g} c h u) p d) → Below P (goal q g rest) (by z k t) (by c h u)) (sym e)
    (λ k' t' f'. both_by c k' h (agrees_below u t' (apart_body q 0 (clause_at P c).body rest a.0 a.1) (λ p x y.
    elim (f' p x (inr y)) [ inl z ↦ absurd (own_body q g rest (clause_at P c).body t' x a (subst (λ r. At t' r x) z.0 y)) | inr z ↦ z ])))) k t f
agrees_below (equate u) (equate t) a f = both_equate (agrees_below u t a f)
agrees_below (reckon u) (reckon t) a f = both_reckon (agrees_below u t a f)

-- The query's goals are apart.
pub query_apart : (P : Program) → Apart (query_agenda P)
query_apart P = apart_body [] 0 P.query.body end (λ p b u. elim u [ ]) tt

-- So trees with the same clauses at the same paths are one.
pub same_paths : {P : Program} {ag : Agenda} (t u : Tree P ag) → Apart ag → ((p : Path) (d : ℕ) → At t p d → At u p d)
    → ((p : Path) (d : ℕ) → At u p d → At t p d) → t ≡ u
same_paths t u a f b = same_trees t u (agrees_below u t a f) (agrees_below t u a b)
