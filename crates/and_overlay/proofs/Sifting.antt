-- Lists from which a test took elements, and lists of numbers of which no two are the same, put together.
use Rattle.std.proofs.Common.{ℕ, zero, suc, ◌≡◌, ◌≢◌, ◌⊎◌, inl, inr, Bool, true, false, cond, List, [], ◌∷◌, ◌++◌, get_or, refl, sym, ap, ◌∙◌, subst, arith}
use Rattle.std.specs.Prelude.{Contains, filter}
use Rattle.std.proofs.lemmas.List.Elements.{Contains-append_left, Contains-append_right, Contains-append_cases, Contains-get_or}
use Rattle.std.proofs.lemmas.List.Kept.{AllPairs-cons}
use Rattle.and_model.specs.Store.{AreDistinct}
use Rattle.and_cells.proofs.Among.{among_first, among_more, among_cases, among_none}

-- what is left by a test was there, and passes it
pub filter_among : {X : Type 0} (p : X → Bool) (y : X) (xs : List X) → Contains (filter p xs) y → Contains xs y × (p y ≡ true)
filter_among p y [] has = absurd (among_none y has)
filter_among p y (x ∷ xs) has = by_test (filter_among p y xs) (p x) refl has
  where
    by_test : (Contains (filter p xs) y → Contains xs y × (p y ≡ true)) → (b : Bool) → p x ≡ b
        → Contains (cond b (x ∷ filter p xs) (filter p xs)) y → Contains (x ∷ xs) y × (p y ≡ true)
    by_test after true is has = elim (among_cases x y (filter p xs) has) [
      | inl same ↦ (subst (Contains (x ∷ xs)) (sym same) (among_first x xs), ap p same ∙ is)
      | inr rest ↦ (let (there, passes) = after rest in (among_more x y xs there, passes))
    ]
    by_test after false is has = let (there, passes) = after has in (among_more x y xs there, passes)

-- and what was there and passes it is left
pub among_filter : {X : Type 0} (p : X → Bool) (y : X) (xs : List X) → Contains xs y → p y ≡ true → Contains (filter p xs) y
among_filter p y [] has passes = absurd (among_none y has)
among_filter p y (x ∷ xs) has passes = by_test (λ rest. among_filter p y xs rest passes) (p x) refl (among_cases x y xs has)
  where
    by_test : (Contains xs y → Contains (filter p xs) y) → (b : Bool) → p x ≡ b → (y ≡ x) ⊎ Contains xs y → Contains (cond b (x ∷ filter p xs) (filter p xs)) y
    by_test after true is (inl same) = subst (Contains (x ∷ filter p xs)) (sym same) (among_first x (filter p xs))
    by_test after true is (inr rest) = among_more x y (filter p xs) (after rest)
    by_test after false is (inl same) = absurd (let both : true ≡ false = sym passes ∙ ap p same ∙ is in cc)
    by_test after false is (inr rest) = after rest

pub distinct_rest : (n : ℕ) (ns : List ℕ) → AreDistinct (n ∷ ns) → AreDistinct ns
distinct_rest n ns apart i j d before within = apart (suc i) (suc j) d (omega arith) (omega arith)

pub distinct_first : (n : ℕ) (ns : List ℕ) → AreDistinct (n ∷ ns) → (m : ℕ) → Contains ns m → n ≢ m
distinct_first n ns apart m has same = let low = has.1 in apart zero (suc has.0) m (omega arith) (omega arith) (same ∙ sym has.2)

pub distinct_cons : (n : ℕ) (ns : List ℕ) → ((m : ℕ) → Contains ns m → n ≢ m) → AreDistinct ns → AreDistinct (n ∷ ns)
distinct_cons n ns first rest = AllPairs-cons (λ (a b : ℕ). a ≢ b) n ns (λ k d low. first (get_or ns k d) (Contains-get_or ns k d low)) rest

-- two lists of which none has a number of the other may be put together,
pub distinct_append : (ns ms : List ℕ) → AreDistinct ns → AreDistinct ms → ((n : ℕ) → Contains ns n → Contains ms n → ⊥) → AreDistinct (ns ++ ms)
distinct_append [] ms one two apart = two
distinct_append (n ∷ ns) ms one two apart =
    distinct_cons n (ns ++ ms) (λ m has. elim (Contains-append_cases ns ms m has) [
      | inl here ↦ distinct_first n ns one m here
      | inr there ↦ (λ e. apart n (0, omega arith, refl) (subst (Contains ms) (sym e) there))
    ]) (distinct_append ns ms (distinct_rest n ns one) two (λ m here there. apart m (among_more n m ns here) there))

-- and were such, if together they are.
pub distinct_front : (ns ms : List ℕ) → AreDistinct (ns ++ ms) → AreDistinct ns
distinct_front [] ms apart = λ i j d before within. absurd (omega arith)
distinct_front (n ∷ ns) ms apart =
    distinct_cons n ns (λ m has. distinct_first n (ns ++ ms) apart m (Contains-append_left ns ms m has))
    (distinct_front ns ms (distinct_rest n (ns ++ ms) apart))

pub distinct_back : (ns ms : List ℕ) → AreDistinct (ns ++ ms) → AreDistinct ms
distinct_back [] ms apart = apart
distinct_back (n ∷ ns) ms apart = distinct_back ns ms (distinct_rest n (ns ++ ms) apart)

pub distinct_parts : (ns ms : List ℕ) → AreDistinct (ns ++ ms) → (n : ℕ) → Contains ns n → Contains ms n → ⊥
distinct_parts [] ms apart n here there = let low = here.1 in absurd (omega arith)
distinct_parts (m ∷ ns) ms apart n here there = elim (among_cases m n ns here) [
  | inl same ↦ distinct_first m (ns ++ ms) apart n (Contains-append_right ns ms n there) (sym same)
  | inr rest ↦ distinct_parts ns ms (distinct_rest m (ns ++ ms) apart) n rest there
]
