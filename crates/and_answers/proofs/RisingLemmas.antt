-- Entries that rise are in the order of their codes, if these differ.
use Rattle.std.proofs.Common.{◌≡◌, ◌≢◌, ◌<◌, ◌⊎◌, inl, inr, ℕ, zero, suc, Bool, true, false, List, [], ◌∷◌, length, map, get_or, refl, sym, ◌∙◌, subst, arith}
use Rattle.std.proofs.Common.{AllPairs}
use Rattle.std.specs.Prelude.{nat_eq}
use Rattle.std.specs.List.{IsDistinct}
use Rattle.std.specs.List.Sorted.{IsPermutation}
use Rattle.std.specs.Cmp.Lexicographic.{pointwise, bytes_decides}
use Rattle.std.proofs.lemmas.Bool.{true≢false}
use Rattle.std.proofs.lemmas.Bool.Decides.{same_from_decides, Decides-like}
use Rattle.std.proofs.lemmas.List.Sorted.{IsPermutation-map}
use Rattle.std.proofs.lemmas.Map.Keys.{IsDistinct-from_apart, IsDistinct-IsPermutation, apart_from_distinct}
use Rattle.and_model.specs.Codes.{Precedes}
use Rattle.and_model.specs.Listing
use Rattle.and_model.proofs.CodeOrder.{precedes_transitive}
use Rattle.and_answers.specs.Kept.{entry_of}
use Rattle.and_answers.specs.Order.{HasDistinctCodes, InOrder}
use Rattle.and_answers.specs.Runs.{IsBehind, Rises, clauses_of, entries_of}
use Rattle.and_answers.specs.declared.found.Entry.{Entry}
use Rattle.and_answers.specs.declared.tail.Tail.{Tail}
use Rattle.and_answers.proofs.TailLemmas.{tail_follows}
use Rattle.and_answers.proofs.RunLemmas.{code_of}

-- The one comes before the other, or is it.
abbrev AtMost : List ℕ → List ℕ → Type 0
AtMost one other = Precedes one other ⊎ (one ≡ other)

at_most_on : (one two three : List ℕ) → AtMost one two → AtMost two three → AtMost one three
at_most_on one two three (inl first) (inl second) = inl (precedes_transitive one two three first second)
at_most_on one two three (inl first) (inr same) = inl (subst (λ c. Precedes one c) same first)
at_most_on one two three (inr same) second = subst (λ c. AtMost c three) (sym same) second

behind_most : (last : List ℕ) (t : Tail) → IsBehind last t → AtMost last (code_of t)
behind_most last t is = subst (λ c. AtMost last c) (sym is.code_is) (tail_follows last (clauses_of t) t.common is.follows)

pairs_first : {X : Type 0} (R : X → X → Type 0) (x : X) (xs : List X) → ((k : ℕ) (d : X) → k < length xs → R x (get_or xs k d)) → AllPairs R xs
    → AllPairs R (x ∷ xs)
pairs_first R x xs first rest zero zero d before within = absurd (omega arith)
pairs_first R x xs first rest zero (suc j) d before within = first j d (omega arith)
pairs_first R x xs first rest (suc i) zero d before within = absurd (omega arith)
pairs_first R x xs first rest (suc i) (suc j) d before within = rest i j d (omega arith) (omega arith)

-- the entries of a listing that these are
abbrev told : List Tail → List Listing.Entry
told ts = map entry_of (entries_of ts)

far : (last : List ℕ) (ts : List Tail) → Rises last ts → (k : ℕ) (d : Listing.Entry) → k < length (told ts) → AtMost last (get_or (told ts) k d).code
far last [] r k d within = absurd (omega arith)
far last (t ∷ ts) r zero d within = behind_most last t r.0
far last (t ∷ ts) r (suc k) d within =
    at_most_on last (code_of t) (get_or (told ts) k d).code (behind_most last t r.0) (far (code_of t) ts r.1 k d (omega arith))

weakly : (last : List ℕ) (ts : List Tail) → Rises last ts → AllPairs (λ (x y : Listing.Entry). AtMost x.code y.code) (told ts)
weakly last [] r = λ i j d before within. absurd (omega arith)
weakly last (t ∷ ts) r =
    pairs_first (λ (x y : Listing.Entry). AtMost x.code y.code) (entry_of t.entry) (told ts) (far (code_of t) ts r.1) (weakly (code_of t) ts r.1)

-- whether two entries have one code
same_code : Listing.Entry → Listing.Entry → Bool
same_code x y = pointwise nat_eq x.code y.code

differs : (x y : Listing.Entry) → x.code ≢ y.code → same_code x y ≡ false
unfolding same_code
differs x y apart = by_test (pointwise nat_eq x.code y.code) refl
  where
    by_test : (b : Bool) → pointwise nat_eq x.code y.code ≡ b → b ≡ false
    by_test true is = absurd (apart ((bytes_decides x.code y.code).0 is))
    by_test false is = refl

flips : (x y : Listing.Entry) → same_code x y ≡ same_code y x
unfolding same_code
flips x y =
    same_from_decides (pointwise nat_eq x.code y.code) (pointwise nat_eq y.code x.code) (bytes_decides x.code y.code)
    (Decides-like (pointwise nat_eq y.code x.code) sym sym (bytes_decides y.code x.code))

strictly : (x y : Listing.Entry) → AtMost x.code y.code → same_code x y ≡ false → Precedes x.code y.code
unfolding same_code
strictly x y (inl before) apart = before
strictly x y (inr same) apart = absurd (true≢false (sym ((bytes_decides x.code y.code).1 same) ∙ apart))

pub risen_in_order : (es : List Entry) (ts : List Tail) → HasDistinctCodes (map entry_of es) → IsPermutation es (entries_of ts) → Rises [] ts
    → InOrder (map entry_of es) (map entry_of (entries_of ts))
risen_in_order es ts apart moved r =
    let old : List Listing.Entry = map entry_of es in
    let same : IsPermutation old (told ts) = IsPermutation-map entry_of es (entries_of ts) moved in
    let before : IsDistinct same_code old = IsDistinct-from_apart same_code old
    (λ i j d less within. differs (get_or old i d) (get_or old j d) (apart i j d less within)) in
    let after : IsDistinct same_code (told ts) = IsDistinct-IsPermutation same_code flips old (told ts) same before in
    record {
      same = same;
      rising = λ i j d less within. strictly (get_or (told ts) i d) (get_or (told ts) j d) (weakly [] ts r i j d less within)
          (apart_from_distinct same_code (told ts) i j d after less within);
    }
