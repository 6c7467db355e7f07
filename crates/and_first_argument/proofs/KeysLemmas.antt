-- Keys are told apart exactly.
use Rattle.std.proofs.Common.{◌≡◌, ◌≢◌, ◌<◌, ◌+◌, ℕ, suc, Bool, true, false, ◌||◌, List, [], ◌∷◌, ◌++◌, length, get_or, Some, None, cond}
use Rattle.std.proofs.Common.{refl, ap, sym, ◌∙◌, arith, eqb}
use Rattle.std.specs.Prelude.{Contains, position}
use Rattle.std.specs.List.{list_any, position_from}
use Rattle.std.proofs.lemmas.List.Quantifiers.{position-Some}
use Rattle.std.proofs.lemmas.List.Folds.{list_any_at}
use Rattle.std.proofs.lemmas.Iterator.Adapters.{position_from-zero}
use Rattle.std.proofs.lemmas.Bool.{eqb-true, eq-eqb}
use Rattle.std.proofs.lemmas.Bool.Decides.{Decides-int_eq}
use Rattle.and_model.proofs.Tested.{first_true, second_true}
use Rattle.and_first_argument.specs.contracts.key.KeyPartialEq.TheImpl.{eq-value}
use Rattle.indexmap.specs.IndexSet.{insert_key}
use Rattle.and_first_argument.specs.Keys.{same_key}
use Rattle.and_first_argument.specs.Tables.{keys_with}
use Rattle.and_first_argument.specs.declared.key.Key.{Key}
use Rattle.and_first_argument.specs.declared.key.Key.TheVariants.{Name, Number}

pub same_key-true : (a b : Key) → same_key a b ≡ true → a ≡ b
same_key-true (Name n c) (Name m d) is =
    let named : n.0 ≡ m.0 = eqb-true n.0 m.0 (first_true (eqb n.0 m.0) (eqb c d) is) in
    let counted : c ≡ d = eqb-true c d (second_true (eqb n.0 m.0) (eqb c d) is) in
    λ i. Name (record { 0 = named i }) (counted i)
same_key-true (Name n c) (Number y) is = absurd (cc)
same_key-true (Number x) (Name m d) is = absurd (cc)
same_key-true (Number x) (Number y) is = ap Number ((Decides-int_eq x y).0 is)

pub same_key-same : (a : Key) → same_key a a ≡ true
same_key-same (Name n c) = rw (eq-eqb n.0 n.0 refl, eq-eqb c c refl) refl
same_key-same (Number x) = (Decides-int_eq x x).1 refl

pub same_key-other : (a b : Key) → a ≢ b → same_key a b ≡ false
same_key-other a b apart = by_test (same_key a b) refl
  where
    by_test : (t : Bool) → same_key a b ≡ t → t ≡ false
    by_test true is = absurd (apart (same_key-true a b is))
    by_test false is = refl

-- where a key is found, it stands
pub placed : (keys : List Key) (key : Key) (place : ℕ) → position (same_key key) keys ≡ Some place
    → (place < length keys) × (key ≡ get_or keys place key)
placed keys key place is =
    let found = position-Some (same_key key) keys place key is in
    (found.0, same_key-true key (get_or keys place key) found.1)

-- with a key more at the end, another is found where it was
pub placed_as_before : (p : Key → Bool) (keys : List Key) (key : Key) → p key ≡ false → position p (keys ++ key ∷ []) ≡ position p keys
placed_as_before p keys key other = position_from-zero p (keys ++ key ∷ []) ∙ from 0 keys ∙ sym (position_from-zero p keys)
  where
    from : (n : ℕ) (ks : List Key) → position_from p n (ks ++ key ∷ []) ≡ position_from p n ks
    from n [] = rw other refl
    from n (k ∷ ks) = ap (cond (p k) (Some n)) (from (n + 1) ks)

-- and one that was not there is found at the end
pub placed_last : (p : Key → Bool) (keys : List Key) (key : Key) → position p keys ≡ None → p key ≡ true
    → position p (keys ++ key ∷ []) ≡ Some (length keys)
placed_last p keys key absent passes = position_from-zero p (keys ++ key ∷ []) ∙ from 0 keys (sym (position_from-zero p keys) ∙ absent)
    ∙ ap Some (omega arith)
  where
    from : (n : ℕ) (ks : List Key) → position_from p n ks ≡ None → position_from p n (ks ++ key ∷ []) ≡ Some (n + length ks)
    from n [] none = rw passes (ap Some (omega arith))
    from n (k ∷ ks) none = by_test (from (n + 1) ks) (p k) none
      where
        by_test : (position_from p (n + 1) ks ≡ None → position_from p (n + 1) (ks ++ key ∷ []) ≡ Some (n + 1 + length ks)) → (t : Bool)
            → cond t (Some n) (position_from p (n + 1) ks) ≡ None
            → cond t (Some n) (position_from p (n + 1) (ks ++ key ∷ [])) ≡ Some (n + suc (length ks))
        by_test again true first = absurd (cc)
        by_test again false rest = again rest ∙ ap Some (omega arith)

-- what is found is among the keys, and what is not found is not
pub found_among : (keys : List Key) (key : Key) (place : ℕ) → position (same_key key) keys ≡ Some place
    → list_any (same_key key) keys ≡ true
found_among keys key place is =
    let found = position-Some (same_key key) keys place key is in
    list_any_at (same_key key) keys place key found.0 found.1

pub not_among : (p : Key → Bool) (keys : List Key) → position p keys ≡ None → list_any p keys ≡ false
not_among p keys absent = from 0 keys (sym (position_from-zero p keys) ∙ absent)
  where
    from : (n : ℕ) (ks : List Key) → position_from p n ks ≡ None → list_any p ks ≡ false
    from n [] none = refl
    from n (k ∷ ks) none = by_test (from (n + 1) ks) (p k) none
      where
        by_test : (position_from p (n + 1) ks ≡ None → list_any p ks ≡ false) → (t : Bool)
            → cond t (Some n) (position_from p (n + 1) ks) ≡ None → (t || list_any p ks) ≡ false
        by_test again true first = absurd (cc)
        by_test again false rest = again rest

pub found_contained : (keys : List Key) (key : Key) (place : ℕ) → position (same_key key) keys ≡ Some place → Contains keys key
found_contained keys key place is = let at = placed keys key place is in (place, at.0, sym at.1)

pub not_contained : (keys : List Key) (key : Key) → position (same_key key) keys ≡ None → Contains keys key → ⊥
not_contained keys key absent (place, below, is) =
    let passes : same_key key (get_or keys place key) ≡ true = ap (same_key key) is ∙ same_key-same key in
    let among = list_any_at (same_key key) keys place key below passes in
    let none = not_among (same_key key) keys absent in
    absurd (cc)

-- the code's test of two keys is the same
pub tests_same : (key : Key) → eq-value.it key ≡ same_key key
tests_same key = λ i k. agree key k i
  where
    agree : (a b : Key) → eq-value.it a b ≡ same_key a b
    agree (Name n c) (Name m d) = refl
    agree (Name n c) (Number y) = refl
    agree (Number x) (Name m d) = refl
    agree (Number x) (Number y) = refl

-- so a set of keys grows by a key as a list does
pub keys_inserted : (keys : List Key) (key : Key) → insert_key eq-value.it keys key ≡ keys_with keys key
keys_inserted keys key = ap (λ (p : Key → Bool). cond (list_any p keys) keys (keys ++ key ∷ [])) (tests_same key)
