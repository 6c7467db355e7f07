-- Keys: all trees that are reached by one key come by Steps from one tree.
use Rattle.std.proofs.Common.{ℕ, ◌≡◌, List, [], ◌∷◌, ◌++◌, refl, sym, ◌∙◌, subst, inl, inr, ◌⊎◌}
use Rattle.and_model.specs.Programs.{Program, clause_at, Of}
use Rattle.and_model.specs.Trees.{Agenda, goal, Tree, QueryTree, query_agenda, blank, done, left, by, equate, reckon, decided, Open, call_of, fresh, reduce}
use Rattle.and_model.specs.Trees.{IsLeftmost, Below, both_done, both_left, both_by, grown, both_equate, both_reckon}
use Rattle.and_model.specs.Reached.{Shut, Split, Steps, none, more, ReachedBy}
use Rattle.and_model.specs.Prefixes.{IsPrefix}
use Rattle.and_laws.proofs.PrefixLemmas.{prefix_cons, prefix_then, same_last, not_empty}
use Rattle.and_laws.proofs.Order.{below_then, blank_below, same_trees}
use Rattle.and_laws.proofs.Splitting.{reduce_same, split_same}
use Rattle.and_laws.proofs.Agreeing.{step_shut, step_above}

-- A larger tree goes on from what the smaller has decided.
pub below_decided : {P : Program} {ag : Agenda} {t u : Tree P ag} → Below P ag t u → IsPrefix (decided t) (decided u)
below_decided both_done = ([], refl)
below_decided (both_left b) = ([], refl)
below_decided (both_by c h k {t = t} {u = u} b) = prefix_cons c (decided t) (decided u) (below_decided b)
below_decided (grown c h t {u = u} b) = (c ∷ decided u, refl)
below_decided (both_equate b) = below_decided b
below_decided (both_reckon b) = below_decided b

-- Where the leftmost goal is reduced, what is decided goes on with the clause.
pub reduce_decided : {P : Program} {ag : Agenda} (t : Tree P ag) (o : Open t) (c : ℕ) (h : Of P (call_of t o) c) → IsLeftmost t o
    → IsPrefix (decided t ++ c ∷ []) (decided (reduce t o c h))
reduce_decided done o c h m = elim m [ ]
reduce_decided (left t) (inr o) c h m = elim m [ ]
reduce_decided {P} (left {q = q} t) (inl x) c h m = (decided (fresh q 0 (clause_at P c).body t), refl)
reduce_decided (by d k t) o c h m = prefix_cons d (decided t ++ c ∷ []) (decided (reduce t o c h)) (reduce_decided t o c h m)
reduce_decided (equate t) o c h m = reduce_decided t o c h m
reduce_decided (reckon t) o c h m = reduce_decided t o c h m

-- Where the larger tree's decided clauses go on with c after the smaller's, it has c at the leftmost open goal.
pub next_taken : {P : Program} {ag : Agenda} {t u : Tree P ag} → Below P ag t u → (c : ℕ) → IsPrefix (decided t ++ c ∷ []) (decided u)
    → (o : Open t) × IsLeftmost t o × (h : Of P (call_of t o) c) × Below P ag (reduce t o c h) u
next_taken both_done c x = let e = x.1 in absurd (cc)
next_taken (both_left b) c x = let e = x.1 in absurd (cc)
next_taken (both_by d k k' {t = t} b) c x = let r = next_taken b c (x.0, (let e = x.1 in cc)) in (r.0, r.1, r.2, both_by d k k' {t = reduce t r.0 c r.2} r.3)
next_taken {P} (grown {q = q} {g = g} {rest = rest} d k t {u = u} b) c x =
    let e : d ≡ c = (let f = x.1 in cc) in
    subst (λ z. (o : Open (left {q = q} {g = g} t)) × IsLeftmost (left {q = q} {g = g} t) o × (h : Of P (call_of (left {q = q} {g = g} t) o) z)
    × Below P (goal q g rest) (reduce (left t) o z h) (by d k u)) e
    (inl tt, tt, k, both_by d k k b)
next_taken (both_equate b) c x = let r = next_taken b c x in (r.0, r.1, r.2, both_equate r.3)
next_taken (both_reckon b) c x = let r = next_taken b c x in (r.0, r.1, r.2, both_reckon r.3)

-- So it is above the tree with c there.
leftmost_taken : {P : Program} {ag : Agenda} {t u : Tree P ag} → Below P ag t u → (o : Open t) (c : ℕ) (h : Of P (call_of t o) c) → IsLeftmost t o
    → IsPrefix (decided t ++ c ∷ []) (decided u) → Below P ag (reduce t o c h) u
leftmost_taken {P} {ag} {t} {u} b o c h m x =
    let (p, n, k, above) = next_taken b c x in
    below_then above (reduce_same t o p c h k m n)

-- What a tree has decided begins with the key by which it is reached.
pub reached_decided : (P : Program) (limit : ℕ) (key : List ℕ) (t : QueryTree P) → ReachedBy P limit key t → IsPrefix key (decided t)
reached_decided P limit key t (ReachedBy.start h) = (decided (blank {P = P} (query_agenda P)), refl)
reached_decided P limit key t (ReachedBy.stepped k u v r st h) =
    prefix_then k (decided u) (decided v) (reached_decided P limit k u r) (below_decided (step_above u v st))
reached_decided P limit key t (ReachedBy.divided k u c v r sp h) =
    let b : IsPrefix (decided u ++ c ∷ []) (decided (reduce u sp.4 c sp.6)) = reduce_decided u sp.4 c sp.6 sp.5 in
    rw sp.8 b

-- What is reached by a key is below each Shut tree whose decided clauses begin with it.
reached_below : (P : Program) (limit : ℕ) (key : List ℕ) (t : QueryTree P) → ReachedBy P limit key t → (s : QueryTree P) → Shut s → IsPrefix key (decided s)
    → Below P (query_agenda P) t s
reached_below P limit key t (ReachedBy.start h) s shut b = blank_below s
reached_below P limit key t (ReachedBy.stepped k u v r st h) s shut b = step_shut u v s (reached_below P limit k u r s shut b) shut st
reached_below P limit key t (ReachedBy.divided k u c v r sp h) s shut b =
    let k_is : IsPrefix k (decided u) = reached_decided P limit k u r in
    let one : IsPrefix k (decided u ++ c ∷ []) = prefix_then k (decided u) (decided u ++ c ∷ []) k_is (c ∷ [], refl) in
    let below : Below P (query_agenda P) u s = reached_below P limit k u r s shut (prefix_then k (decided u ++ c ∷ []) (decided s) one b) in
    subst (λ x. Below P (query_agenda P) x s) (sym sp.8) (leftmost_taken below sp.4 c sp.6 sp.5 b)

-- where the last Split led, or the query
abbrev pub Root : (P : Program) → ℕ → List ℕ → QueryTree P → Type 0
Root P limit key r = ((key ≡ []) × (r ≡ blank (query_agenda P)))
    ⊎ ((k : List ℕ) × (s : QueryTree P) × (c : ℕ) × ReachedBy P limit k s × Split s c r × (key ≡ decided s ++ c ∷ []))

-- Each tree comes by Steps from a root of its key,
pub from_root : (P : Program) (limit : ℕ) (key : List ℕ) (t : QueryTree P) → ReachedBy P limit key t → (r : QueryTree P) × Root P limit key r × Steps r t
from_root P limit key t (ReachedBy.start h) = (blank (query_agenda P), inl (refl, refl), none (blank (query_agenda P)))
from_root P limit key t (ReachedBy.stepped k u v r st h) = let f = from_root P limit k u r in (f.0, f.1, more f.0 u v f.2 st)
from_root P limit key t (ReachedBy.divided k u c v r sp h) = (v, inr (k, u, c, r, sp, refl), none v)

-- and a key has one root.
pub one_root : (P : Program) (limit : ℕ) (key : List ℕ) (r s : QueryTree P) → Root P limit key r → Root P limit key s → r ≡ s
one_root P limit key r s (inl a) (inl b) = a.1 ∙ sym b.1
one_root P limit key r s (inl a) (inr b) = absurd (not_empty (decided b.1) b.2 (sym a.0 ∙ b.5))
one_root P limit key r s (inr a) (inl b) = absurd (not_empty (decided a.1) a.2 (sym b.0 ∙ a.5))
one_root P limit key r s (inr a) (inr b) =
    let Q : Agenda = query_agenda P in
    let x : Tree P Q = a.1 in
    let y : Tree P Q = b.1 in
    let e : (decided x ≡ decided y) × (a.2 ≡ b.2) = same_last (decided x) (decided y) a.2 b.2 (sym a.5 ∙ b.5) in
    let one : Below P Q x y = reached_below P limit a.0 x a.3 y b.4.0 (subst (λ l. IsPrefix a.0 l) e.0 (reached_decided P limit a.0 x a.3)) in
    let two : Below P Q y x = reached_below P limit b.0 y b.3 x a.4.0 (subst (λ l. IsPrefix b.0 l) (sym e.0) (reached_decided P limit b.0 y b.3)) in
    let same : x ≡ y = same_trees x y one two in
    let z : Split y a.2 r = subst (λ t. Split t a.2 r) same a.4 in
    split_same y r s b.2 (subst (λ c. Split y c r) e.1 z) b.4

-- So one tree leads to all that are reached by the key.
pub one_key : (P : Program) (limit : ℕ) (key : List ℕ) (t : QueryTree P) → ReachedBy P limit key t
    → (r : QueryTree P) × ((u : QueryTree P) → ReachedBy P limit key u → Steps r u)
one_key P limit key t x =
    let f = from_root P limit key t x in
    (f.0, λ u y. let g = from_root P limit key u y in subst (λ r. Steps r u) (one_root P limit key g.0 f.0 g.1 f.1) g.2)
