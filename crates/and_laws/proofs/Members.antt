-- A listing has the entries of all outcomes within the limit, and no others; and a list in order that has these is the listing.
use Rattle.std.proofs.Common.{ℕ, ◌≡◌, ◌≤◌, ◌↔◌, List, [], ◌∷◌, refl, ap, sym, ◌∙◌, subst, inl, inr, ◌⊎◌, true≢false, arith, suc, AllPairs, Contains}
use Rattle.std.proofs.lemmas.Bool.{cases_lt}
use Rattle.std.proofs.lemmas.Cmp.{nat_list_cmp_total}
use Rattle.std.proofs.lemmas.List.Elements.{Contains-append_left, Contains-append_right, Contains-append_cases}
use Rattle.and_model.specs.Programs.{Program, clause_at, clause_weight, Of}
use Rattle.and_model.specs.Trees.{QueryTree, query_agenda, blank, Open, call_of, reduce, Below, code, weight}
use Rattle.and_model.specs.Listing.{Outcome, Ends, Entry, Lists, ListsFrom, Listing, answered, nothing, calls, no_more, other, heavy, light, of_query}
use Rattle.and_model.specs.Listing.{too_heavy}
use Rattle.and_model.proofs.CodeOrder.{precedes_less}
use Rattle.and_laws.specs.CodeOrder.{Before}
use Rattle.and_laws.specs.Entries.{IsWithin}
use Rattle.and_laws.proofs.Order.{below_self, below_weight, below_then, blank_below, reduce_weight, reduce_above, same_proof, whole_same}
use Rattle.and_laws.proofs.Picking.{picked}
use Rattle.and_laws.proofs.Deciding.{of_bounds}
use Rattle.and_laws.proofs.Listings.{one_outcome, ends_outcome, some_listing}
use Rattle.and_laws.proofs.Ordered.{contains_first, contains_none, contains_cases, same_elements}
use Rattle.and_laws.proofs.Codes.{listing_in_order}

-- a number that is not above another is it, or is below
same_or_above : (c d : ℕ) → c ≤ d → (c ≡ d) ⊎ (suc c ≤ d)
same_or_above c d h = elim (cases_lt c d) [ inl l ↦ inr (omega arith) | inr l ↦ inl (omega arith) ]

-- the entry of a tree with this outcome
abbrev pub entry : {P : Program} → QueryTree P → Outcome → Entry
entry u o = record { code = code u; outcome = o }

module _ (P : Program) (limit : ℕ) where
  -- A tree that ends, and weighs at most the limit, is listed for each tree that it is above.
  module _ (u : QueryTree P) (o : Outcome) (ends : Ends u o) (fits : weight u ≤ limit) where
    mutual
      listed : (t : QueryTree P) (ls : List Entry) → Lists P limit t ls → Below P (query_agenda P) t u → Contains ls (entry u o)
      listed t ls (answered t' r a) b =
          let same : t' ≡ u = whole_same t' u a.0 b in
          let outcomes : r ≡ o = one_outcome u r o (subst (λ z. Ends z r) same a) ends in
          subst (λ x. Contains (entry t' r ∷ []) x) (ap (λ z. entry z r) same ∙ ap (λ x. entry u x) outcomes) (contains_first (entry t' r) [])
      listed t ls (nothing t' w n) b = absurd (n (ends_outcome t' o (subst (λ z. Ends z o) (sym (whole_same t' u w b)) ends)))
      listed t ls (calls t' p ks m f) b =
          let r = picked b ends.0 p in
          let h = of_bounds P (call_of t' p) r.0 r.1 in
          listed_from t' p 1 ks f r.0 r.1 (omega arith) (r.2 r.1)

      listed_from : (t : QueryTree P) (p : Open t) (c : ℕ) (ls : List Entry) → ListsFrom P limit t p c ls → (d : ℕ) (h : Of P (call_of t p) d) → c ≤ d
          → Below P (query_agenda P) (reduce t p d h) u → Contains ls (entry u o)
      listed_from t p c ls (no_more t' p' c' e) d h n b = let k = of_bounds P (call_of t' p') d h in absurd (omega arith)
      listed_from t p c ls (other t' p' c' ks e f r) d h n b = elim (same_or_above c' d n) [
        | inl s ↦ absurd (true≢false (sym (subst (λ x. Of P (call_of t' p') x) (sym s) h) ∙ f))
        | inr l ↦ listed_from t' p' (suc c') ks r d h l b
      ]
      listed_from t p c ls (heavy t' p' c' ks f g r) d h n b = elim (same_or_above c' d n) [
        | inl s ↦ absurd (let e = ap (λ x. clause_weight (clause_at P x)) s in omega (arith, reduce_weight t' p' d h, below_weight b, fits, g, e))
        | inr l ↦ listed_from t' p' (suc c') ks r d h l b
      ]
      listed_from t p c ls (light t' p' c' ks js k g l r) d h n b = elim (same_or_above c' d n) [
        | inl s ↦
            let here : (x : Of P (call_of t' p') c') → Below P (query_agenda P) (reduce t' p' c' x) u =
            subst (λ y. (x : Of P (call_of t' p') y) → Below P (query_agenda P) (reduce t' p' y x) u) (sym s)
            (λ x. subst (λ z. Below P (query_agenda P) (reduce t' p' d z) u) (same_proof h x) b) in
            Contains-append_left ks js (entry u o) (listed (reduce t' p' c' k) ks l (here k))
        | inr l2 ↦ Contains-append_right ks js (entry u o) (listed_from t' p' (suc c') js r d h l2 b)
      ]

  -- Each entry that is listed for a tree is that of a tree above it that ends, and weighs at most the limit.
  abbrev IsAbove : QueryTree P → Entry → Type 0
  IsAbove t e = (u : QueryTree P) × (code u ≡ e.code) × Ends u e.outcome × (weight u ≤ limit) × Below P (query_agenda P) t u

  mutual
    only_listed : (t : QueryTree P) (ls : List Entry) → Lists P limit t ls → weight t ≤ limit → (e : Entry) → Contains ls e → IsAbove t e
    only_listed t ls (answered t' o a) w e h = elim (contains_cases (entry t' o) e [] h) [
      | inl same ↦ subst (λ x. IsAbove t' x) (sym same) (t', refl, a, w, below_self t')
      | inr none ↦ absurd (contains_none e none)
    ]
    only_listed t ls (nothing t' v n) w e h = absurd (contains_none e h)
    only_listed t ls (calls t' o ks m f) w e h = only_listed_from t' o 1 ks f e h

    only_listed_from : (t : QueryTree P) (o : Open t) (c : ℕ) (ls : List Entry) → ListsFrom P limit t o c ls → (e : Entry) → Contains ls e → IsAbove t e
    only_listed_from t o c ls (no_more t' o' c' k) e h = absurd (contains_none e h)
    only_listed_from t o c ls (other t' o' c' ks k f r) e h = only_listed_from t' o' (suc c') ks r e h
    only_listed_from t o c ls (heavy t' o' c' ks f g r) e h = only_listed_from t' o' (suc c') ks r e h
    only_listed_from t o c ls (light t' o' c' ks js k g l r) e h = elim (Contains-append_cases ks js e h) [
      | inl i ↦ (let x = only_listed (reduce t' o' c' k) ks l (omega (arith, reduce_weight t' o' c' k)) e i in
          (x.0, x.1, x.2, x.3, below_then x.4 (reduce_above t' o' c' k)))
      | inr i ↦ only_listed_from t' o' (suc c') js r e i
    ]

-- A listing has the entries within the limit, and no others,
pub listing_entries : (P : Program) (limit : ℕ) (ls : List Entry) → Listing P limit ls → (e : Entry) → Contains ls e ↔ IsWithin P limit e
listing_entries P limit ls (of_query ks h x) e = (
  λ i. let r = only_listed P limit (blank (query_agenda P)) ks x h e i in (r.0, r.1, r.2, r.3),
  λ r. subst (λ y. Contains ks y) (ap (λ c. record { code = c; outcome = e.outcome }) r.1)
      (listed P limit r.0 e.outcome r.2 r.3 (blank (query_agenda P)) ks x (blank_below r.0)),
)
listing_entries P limit ls (too_heavy h) e = (
  λ i. absurd (contains_none e i),
  λ r. absurd (omega (arith, below_weight (blank_below r.0), r.3)),
)

-- one code is not before another that is before it
before_strict : (x y : Entry) → Before x y → Before y x → ⊥
before_strict x y p q =
    let one = precedes_less x.code y.code p in
    let other = precedes_less y.code x.code q in
    let both = nat_list_cmp_total.antisymm x.code y.code in
    let clash = rw (one, other) at both in
    cc

-- and a list in order that has these entries, and no others, is the listing.
pub entries_listing : (P : Program) (limit : ℕ) (ls : List Entry) → AllPairs Before ls → ((e : Entry) → Contains ls e ↔ IsWithin P limit e) → Listing P limit ls
entries_listing P limit ls order has =
    let r = some_listing P limit in
    let same : r.0 ≡ ls = same_elements Before before_strict r.0 ls (listing_in_order P limit r.0 r.1) order
    (λ e i. (has e).1 ((listing_entries P limit r.0 r.1 e).0 i)) (λ e i. (listing_entries P limit r.0 r.1 e).1 ((has e).0 i)) in
    subst (λ l. Listing P limit l) same r.1
