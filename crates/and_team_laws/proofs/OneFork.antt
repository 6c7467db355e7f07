-- What a Shut tree has decided tells which tree it is, and by which key it is reached.
use Rattle.std.proofs.Common.{ℕ, ◌≡◌, List, [], ◌∷◌, ◌++◌, length, refl, sym, ap, ◌∙◌, subst, arith, inl, inr, ◌⊎◌}
use Rattle.and_model.specs.Prefixes.{IsPrefix}
use Rattle.and_model.specs.Programs.{Program}
use Rattle.and_model.specs.Trees.{QueryTree, query_agenda, Below, code, decided}
use Rattle.and_model.specs.Reached.{Shut, Split, ReachedBy}
use Rattle.and_laws.proofs.Agreeing.{step_shut, steps_above}
use Rattle.and_laws.proofs.Keys.{next_taken, reached_decided, from_root}
use Rattle.and_laws.proofs.Order.{below_then, blank_below, below_size, reduce_size, same_trees}
use Rattle.and_laws.proofs.PrefixLemmas.{prefix_cons, prefix_then}
use Rattle.and_laws.proofs.Splitting.{reduce_same}

-- ---- prefixes

prefix_none : (xs : List ℕ) → IsPrefix xs [] → xs ≡ []
prefix_none [] p = refl
prefix_none (x ∷ xs) p = let e = p.1 in cc

-- Of two prefixes of a list one is a prefix of the other.
comparable : (xs ys zs : List ℕ) → IsPrefix xs zs → IsPrefix ys zs → IsPrefix xs ys ⊎ IsPrefix ys xs
comparable [] ys zs a b = inl (ys, refl)
comparable (x ∷ xs) [] zs a b = inr (x ∷ xs, refl)
comparable (x ∷ xs) (y ∷ ys) zs a b =
    let e : (x ∷ xs) ++ a.0 ≡ (y ∷ ys) ++ b.0 = sym a.1 ∙ b.1 in
    let first : x ≡ y = cc in
    let rest : xs ++ a.0 ≡ ys ++ b.0 = cc in
    elim (comparable xs ys (xs ++ a.0) (a.0, refl) (b.0, rest)) [
      | inl p ↦ inl (subst (λ z. IsPrefix (x ∷ xs) (z ∷ ys)) first (prefix_cons x xs ys p))
      | inr p ↦ inr (subst (λ z. IsPrefix (z ∷ ys) (x ∷ xs)) first (prefix_cons x ys xs p))
    ]

-- A prefix of a list with a last item is all of it, or a prefix of what is before that.
front_or_whole : (xs ys : List ℕ) (c : ℕ) → IsPrefix xs (ys ++ c ∷ []) → (xs ≡ ys ++ c ∷ []) ⊎ IsPrefix xs ys
front_or_whole [] ys c p = inr (ys, refl)
front_or_whole (x ∷ xs) [] c p =
    let e = p.1 in
    let first : c ≡ x = cc in
    let rest : [] ≡ xs ++ p.0 = cc in
    inl (ap (λ l. x ∷ l) (prefix_none xs (p.0, rest)) ∙ ap (λ z. z ∷ []) (sym first))
front_or_whole (x ∷ xs) (y ∷ ys) c p =
    let e = p.1 in
    let first : y ≡ x = cc in
    let rest : ys ++ c ∷ [] ≡ xs ++ p.0 = cc in
    elim (front_or_whole xs ys c (p.0, rest)) [
      | inl same ↦ inl (ap (λ l. x ∷ l) same ∙ ap (λ z. z ∷ ys ++ c ∷ []) (sym first))
      | inr short ↦ inr (subst (λ z. IsPrefix (x ∷ xs) (z ∷ ys)) (sym first) (prefix_cons x xs ys short))
    ]

module _ (P : Program) (limit : ℕ) where
  -- What is reached by a key is below each Shut tree whose decided clauses begin with it.
  below_shut : (key : List ℕ) (t : QueryTree P) → ReachedBy P limit key t → (s : QueryTree P) → Shut s → IsPrefix key (decided s)
      → Below P (query_agenda P) t s
  below_shut key t (ReachedBy.start h) s shut b = blank_below s
  below_shut key t (ReachedBy.stepped k u v r st h) s shut b = step_shut u v s (below_shut k u r s shut b) shut st
  below_shut key t (ReachedBy.divided k u c v r sp h) s shut b =
      let front : IsPrefix k (decided s) =
      prefix_then k (decided u) (decided s) (reached_decided P limit k u r) (prefix_then (decided u) (decided u ++ c ∷ []) (decided s) (c ∷ [], refl) b) in
      let (p, n, h, above) = next_taken (below_shut k u r s shut front) c b in
      subst (λ x. Below P (query_agenda P) x s) (sym sp.8) (below_then above (reduce_same u sp.4 p c sp.6 h sp.5 n))

  -- No split is below the tree that is split.
  split_larger : (s r : QueryTree P) (c : ℕ) → Split s c r → Below P (query_agenda P) r s → ⊥
  split_larger s r c sp below =
      let one = ap (λ (z : QueryTree P). length (code z)) sp.8 in
      let two = reduce_size s sp.4 c sp.6 in
      let three = below_size below in
      absurd (omega arith)

  no_shorter : (key other : List ℕ) (t : QueryTree P) → ReachedBy P limit key t → ReachedBy P limit other t → IsPrefix key other → key ≡ other
  no_shorter key other t one two front =
      let (r, root, steps) = from_root P limit other t two in
      elim root [
        | inl e ↦ prefix_none key (subst (λ l. IsPrefix key l) e.0 front) ∙ sym e.0
        | inr s ↦ elim (front_or_whole key (decided s.1) s.2 (subst (λ l. IsPrefix key l) s.5 front)) [
          | inl same ↦ same ∙ sym s.5
          | inr short ↦
              absurd (split_larger s.1 r s.2 s.4 (below_then (below_shut key t one s.1 s.4.0 short) (steps_above r t steps)))
        ]
      ]

  -- Two Shut trees that have decided the same are one, and one key reaches them.
  pub one_fork : (key other : List ℕ) (t u : QueryTree P) → ReachedBy P limit key t → ReachedBy P limit other u → Shut t → Shut u
      → decided t ≡ decided u → key ≡ other
  one_fork key other t u one two shut too e =
      let here : IsPrefix key (decided t) = reached_decided P limit key t one in
      let there : IsPrefix other (decided u) = reached_decided P limit other u two in
      let same : u ≡ t = same_trees u t
      (below_shut other u two t shut (subst (λ l. IsPrefix other l) (sym e) there))
      (below_shut key t one u too (subst (λ l. IsPrefix key l) e here)) in
      let both : ReachedBy P limit other t = subst (λ z. ReachedBy P limit other z) same two in
      elim (comparable key other (decided t) here (subst (λ l. IsPrefix other l) (sym e) there)) [
        | inl p ↦ no_shorter key other t one both p
        | inr p ↦ sym (no_shorter other key t both one p)
      ]
