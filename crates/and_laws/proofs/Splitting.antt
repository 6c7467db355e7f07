-- Splits divide outcomes.
use Rattle.std.proofs.Common.{ℕ, ◌≡◌, [], ◌∷◌, ◌++◌, refl, sym, ◌∙◌, subst, inl, inr}
use Rattle.and_model.specs.Programs.{Program, clause_at, Of}
use Rattle.and_model.specs.Trees.{Agenda, Tree, done, left, by, equate, reckon, code, decided, Open, call_of, fresh, reduce, IsLeftmost, Below, both_by}
use Rattle.and_model.specs.Trees.{both_equate, both_reckon, HasOutcome}
use Rattle.and_model.specs.Reached.{Shut, Split}
use Rattle.and_model.specs.Prefixes.{IsPrefix}
use Rattle.and_laws.proofs.PrefixLemmas.{prefix_cons, same_after}
use Rattle.and_laws.proofs.Order.{below_self, same_trees}
use Rattle.and_laws.proofs.Picking.{Picked, picked, picked_candidate}

-- A tree above one whose leftmost goal was taken begins with what was decided, and then that clause.
pub leftmost_code : {P : Program} {ag : Agenda} (t u : Tree P ag) (o : Open t) (c : ℕ) (h : Of P (call_of t o) c) → IsLeftmost t o
    → Below P ag (reduce t o c h) u → IsPrefix (decided t ++ c ∷ []) (code u)
leftmost_code done u o c h m b = elim m [ ]
leftmost_code (left t) u (inr o) c h m b = elim m [ ]
leftmost_code (left t) (left u) (inl x) c h m b = elim b [ ]
leftmost_code (left t) (by d k u) (inl x) c h m (both_by d' k' h' b) = (code u, refl)
leftmost_code (by d k t) (left u) o c h m b = elim b [ ]
leftmost_code (by d k t) (by d' k' u) o c h m (both_by d2 k2 h2 b) = prefix_cons d (decided t ++ c ∷ []) (code u) (leftmost_code t u o c h m b)
leftmost_code (equate t) (equate u) o c h m (both_equate b) = leftmost_code t u o c h m b
leftmost_code (reckon t) (reckon u) o c h m (both_reckon b) = leftmost_code t u o c h m b

-- A tree with an open goal has a leftmost one,
pub leftmost : {P : Program} {ag : Agenda} (t : Tree P ag) → Open t → (o : Open t) × IsLeftmost t o
leftmost done o = elim o [ ]
leftmost (left t) o = (inl tt, tt)
leftmost (by c h t) o = leftmost t o
leftmost (equate t) o = leftmost t o
leftmost (reckon t) o = leftmost t o

-- and only one.
pub leftmost_same : {P : Program} {ag : Agenda} (t : Tree P ag) (o p : Open t) → IsLeftmost t o → IsLeftmost t p → o ≡ p
leftmost_same done o p m n = elim m [ ]
leftmost_same (left t) (inl x) (inl y) m n = refl
leftmost_same (left t) (inr o) p m n = elim m [ ]
leftmost_same (left t) (inl x) (inr p) m n = elim n [ ]
leftmost_same (by c h t) o p m n = leftmost_same t o p m n
leftmost_same (equate t) o p m n = leftmost_same t o p m n
leftmost_same (reckon t) o p m n = leftmost_same t o p m n

-- A tree with an outcome that is above a Shut tree with open goals is above one of its splits,
pub split_divides : {P : Program} {ag : Agenda} (t u : Tree P ag) → Below P ag t u → HasOutcome u → Shut t → Open t
    → (c : ℕ) × (next : Tree P ag) × Split t c next × Below P ag next u
split_divides {P} {ag} t u b out shut any =
    let (es, gs, x, so, two) = shut in
    let (o, m) = leftmost t any in
    let r : Picked t u o = picked b out.2 o in
    (r.0, reduce t o r.0 r.1, (shut, es, gs, x, o, m, r.1, picked_candidate b out o r es gs x, refl), r.2 r.1)

-- and which one is told by its code.
pub split_code : {P : Program} {ag : Agenda} (t u next : Tree P ag) (c : ℕ) → Split t c next → Below P ag next u → IsPrefix (decided t ++ c ∷ []) (code u)
split_code {P} {ag} t u next c sp b =
    let o : Open t = sp.4 in
    leftmost_code t u o c sp.6 sp.5 (subst (λ v. Below P ag v u) sp.8 b)

-- Reducing the leftmost goal by one clause gives one tree,
pub reduce_same : {P : Program} {ag : Agenda} (t : Tree P ag) (o p : Open t) (c : ℕ) (h : Of P (call_of t o) c) (k : Of P (call_of t p) c) → IsLeftmost t o
    → IsLeftmost t p → Below P ag (reduce t o c h) (reduce t p c k)
reduce_same done o p c h k m n = elim m [ ]
reduce_same {P} (left {q = q} t) (inl x) (inl y) c h k m n = both_by c h k (below_self (fresh q 0 (clause_at P c).body t))
reduce_same (left t) (inr o) p c h k m n = elim m [ ]
reduce_same (left t) (inl x) (inr p) c h k m n = elim n [ ]
reduce_same (by d j t) o p c h k m n = both_by d j j (reduce_same t o p c h k m n)
reduce_same (equate t) o p c h k m n = both_equate (reduce_same t o p c h k m n)
reduce_same (reckon t) o p c h k m n = both_reckon (reduce_same t o p c h k m n)

-- so a tree has one split by each clause.
pub split_same : {P : Program} {ag : Agenda} (t u v : Tree P ag) (c : ℕ) → Split t c u → Split t c v → u ≡ v
split_same t u v c a b =
    a.8 ∙ same_trees (reduce t a.4 c a.6) (reduce t b.4 c b.6) (reduce_same t a.4 b.4 c a.6 b.6 a.5 b.5) (reduce_same t b.4 a.4 c b.6 a.6 b.5 a.5) ∙ sym b.8

-- So a tree is above one split alone.
pub split_one : {P : Program} {ag : Agenda} (t u next other : Tree P ag) (c d : ℕ) → Split t c next → Below P ag next u → Split t d other → Below P ag other u
    → (c ≡ d) × (next ≡ other)
split_one t u next other c d p b q k =
    let x = split_code t u next c p b in
    let y = split_code t u other d q k in
    let clauses : c ≡ d = same_after (decided t) x.0 y.0 c d (sym x.1 ∙ y.1) in
    (clauses, split_same t next other d (subst (λ z. Split t z next) clauses p) q)
