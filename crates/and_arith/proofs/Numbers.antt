-- Numbers of 64 bits, and remainders of quotients that are rounded down.
use Rattle.std.proofs.Common.{◌≡◌, ℕ, zero, suc, ◌-◌, ◌%◌, ◌<◌, ◌^◌, ℤ, pos, negsuc, ◌+ℤ◌, ◌-ℤ◌, ◌*ℤ◌, FitsSigned, w64, true, false, Option, Some, None}
use Rattle.std.proofs.Common.{SomeIff, refl, sym, ap, ◌∙◌, arith, nat_eq, int_lt, if◌then◌else◌, ◌⊎◌, inl, inr, to_z, of_z}
use Rattle.std.specs.Int.{int_rem_euclid}
use Rattle.std.proofs.lemmas.Bool.{le-leb, cases_lt}
use Rattle.std.proofs.lemmas.Bool.Decides.{leb_tells, nat_tests}
use Rattle.std.proofs.lemmas.Int.{ints, to_z-of_z}
use Rattle.std.proofs.Math.Nat.{suc-mod, mod_self, mod-eq_of_lt, div-add-mod', mod-lt, mod-le, zero-div}
use Rattle.and_model.specs.Arithmetic.{in_range, floor_quotient, is_zero}

pub in_range_fits : (z : ℤ) → FitsSigned w64 z → in_range z ≡ Some z
in_range_fits (pos n) h = rw (le-leb n (2 ^ 63 - 1) (omega (arith, h))) refl
in_range_fits (negsuc n) h = rw (le-leb n (2 ^ 63 - 1) (omega (arith, h))) refl

not_in_range : (z : ℤ) → (FitsSigned w64 z → ⊥) → in_range z ≡ None
not_in_range (pos n) h =
    elim (leb_tells n (2 ^ 63 - 1)) [
      | inl t ↦ absurd (h (record { sfits = omega (arith, t.1) }))
      | inr f ↦ rw f.0 refl
    ]
not_in_range (negsuc n) h =
    elim (leb_tells n (2 ^ 63 - 1)) [
      | inl t ↦ absurd (h (record { sfits = omega (arith, t.1) }))
      | inr f ↦ rw f.0 refl
    ]

-- what the checked operations answer
pub checked_in_range : (o : Option ℤ) (z : ℤ) → SomeIff o (FitsSigned w64 z) z → o ≡ in_range z
checked_in_range None z h = sym (not_in_range z h)
checked_in_range (Some y) z h = ap Some h.1 ∙ sym (in_range_fits z h.0)

-- the same with the operands as the code reads them
pub both_read : (o : Option ℤ) (f : ℤ → ℤ → ℤ) (a b : ℤ) → FitsSigned w64 a → FitsSigned w64 b
    → SomeIff o (FitsSigned w64 (f (to_z w64 (of_z w64 a)) (to_z w64 (of_z w64 b)))) (f (to_z w64 (of_z w64 a)) (to_z w64 (of_z w64 b))) → o ≡ in_range (f a b)
both_read o f a b p q h =
    checked_in_range o _ h
    ∙ ap (λ x. in_range (f x (to_z w64 (of_z w64 b)))) (to_z-of_z w64 a p)
    ∙ ap (λ y. in_range (f a y)) (to_z-of_z w64 b q)

pub as_read : {A : Type 0} (f : ℤ → ℤ → A) (a b : ℤ) → FitsSigned w64 a → FitsSigned w64 b → f (to_z w64 (of_z w64 a)) (to_z w64 (of_z w64 b)) ≡ f a b
as_read f a b p q = ap (λ x. f x (to_z w64 (of_z w64 b))) (to_z-of_z w64 a p) ∙ ap (f a) (to_z-of_z w64 b q)

-- the remainder of the next number
next_remainder : (n m : ℕ) → ((suc (n % suc m) ≡ suc m) × (suc n % suc m ≡ 0)) ⊎ ((suc (n % suc m) < suc m) × (suc n % suc m ≡ suc (n % suc m)))
next_remainder n m =
    let l : n % suc m < suc m = mod-lt n (omega arith) in
    elim (cases_lt (suc (n % suc m)) (suc m)) [
      | inl s ↦ inr (s, suc-mod n (suc m) ∙ mod-eq_of_lt s)
      | inr g ↦ (let e : suc (n % suc m) ≡ suc m = omega arith in inl (e, suc-mod n (suc m) ∙ ap (λ x. x % suc m) e ∙ mod_self (suc m)))
    ]

-- over a divisor above 0
pub floored_above : (a : ℤ) (m : ℕ) → a -ℤ pos (suc m) *ℤ floor_quotient a (pos (suc m)) ≡ int_rem_euclid a (pos (suc m))
floored_above (pos n) m = omega (arith, ints, div-add-mod' n (suc m))
floored_above (negsuc n) m =
    let l : n % suc m < suc m = mod-lt n (omega arith) in
    omega (arith, ints, div-add-mod' n (suc m))

-- and below 0
pub floored_zero : (a : ℤ) (m : ℕ) → int_rem_euclid a (negsuc m) ≡ pos 0 → a -ℤ negsuc m *ℤ floor_quotient a (negsuc m) ≡ pos 0
floored_zero (pos zero) m h = omega (arith, ints, zero-div (suc m))
floored_zero (pos (suc n)) m h =
    let e : suc n % suc m ≡ 0 = cc in
    elim (next_remainder n m) [
      | inl p ↦ omega (arith, ints, p.0, div-add-mod' n (suc m))
      | inr p ↦ absurd (omega (arith, p.1))
    ]
floored_zero (negsuc n) m h =
    let e : suc m - 1 - n % suc m ≡ 0 = cc in
    let l : n % suc m < suc m = mod-lt n (omega arith) in
    elim (next_remainder n m) [
      | inl p ↦ omega (arith, ints, p.1, div-add-mod' (suc n) (suc m))
      | inr p ↦ absurd (omega (arith, p.0))
    ]

pub floored_below : (a : ℤ) (m r : ℕ) → int_rem_euclid a (negsuc m) ≡ pos (suc r) → a -ℤ negsuc m *ℤ floor_quotient a (negsuc m) ≡ pos (suc r) +ℤ negsuc m
floored_below (pos zero) m r h = absurd (let e : 0 % suc m ≡ suc r = cc in omega (arith, mod-le 0 (suc m)))
floored_below (pos (suc n)) m r h =
    let e : suc n % suc m ≡ suc r = cc in
    elim (next_remainder n m) [
      | inl p ↦ absurd (omega (arith, p.1))
      | inr p ↦ omega (arith, ints, p.0, p.1, div-add-mod' n (suc m))
    ]
floored_below (negsuc n) m r h =
    let e : suc m - 1 - n % suc m ≡ suc r = cc in
    let l : n % suc m < suc m = mod-lt n (omega arith) in
    elim (next_remainder n m) [
      | inl p ↦ absurd (omega (arith, p.0))
      | inr p ↦ omega (arith, ints, p.0, p.1, div-add-mod' (suc n) (suc m))
    ]

abbrev pub floored_of : ℤ → ℤ → Option ℤ
floored_of a b = if is_zero b then None else Some (a -ℤ b *ℤ floor_quotient a b)

above_is : (a b r : ℤ) → int_lt (pos 0) b ≡ true → r ≡ int_rem_euclid a b → Some r ≡ floored_of a b
above_is a (pos zero) r h e = absurd (grind arith)
above_is a (pos (suc m)) r h e =
    let n : nat_eq (suc m) 0 ≡ false = grind (arith, nat_tests) in
    rw n (ap Some (e ∙ sym (floored_above a m)))
above_is a (negsuc m) r h e = cc

none_is : (a b : ℤ) → (b ≡ pos 0 → ⊥) → int_lt (pos 0) b ≡ false → int_rem_euclid a b ≡ pos 0 → Some (pos 0) ≡ floored_of a b
none_is a (pos zero) n h e = absurd (n refl)
none_is a (pos (suc m)) n h e = absurd (let l : int_lt (pos 0) (pos (suc m)) ≡ true = grind (arith, nat_tests) in cc)
none_is a (negsuc m) n h e = ap Some (sym (floored_zero a m e))

below_is : (a b r : ℤ) → (b ≡ pos 0 → ⊥) → int_lt (pos 0) b ≡ false → (r ≡ pos 0 → ⊥) → r ≡ int_rem_euclid a b → Some (r +ℤ b) ≡ floored_of a b
below_is a (pos zero) r n h k e = absurd (n refl)
below_is a (pos (suc m)) r n h k e = absurd (let l : int_lt (pos 0) (pos (suc m)) ≡ true = grind (arith, nat_tests) in cc)
below_is a (negsuc m) (pos zero) n h k e = absurd (k refl)
below_is a (negsuc m) (pos (suc r)) n h k e = ap Some (sym (floored_below a m r (sym e)))
below_is (pos a) (negsuc m) (negsuc r) n h k e = cc
below_is (negsuc a) (negsuc m) (negsuc r) n h k e = cc

not_zero : (b : ℤ) → (of_z w64 b ≡ 0 → ⊥) → b ≡ pos 0 → ⊥
not_zero b n e = n (ap (of_z w64) e)

-- the three ways in which the code answers
module _ (a b r : ℤ) (p : FitsSigned w64 a) (q : FitsSigned w64 b) (f : FitsSigned w64 r)
    (e : r ≡ int_rem_euclid (to_z w64 (of_z w64 a)) (to_z w64 (of_z w64 b))) where
  same : r ≡ int_rem_euclid a b
  same = e ∙ as_read int_rem_euclid a b p q

  pub answers_above : int_lt (pos 0) (to_z w64 (of_z w64 b)) ≡ true → Some (to_z w64 (of_z w64 r)) ≡ floored_of a b
  answers_above h = ap Some (to_z-of_z w64 r f) ∙ above_is a b r (ap (int_lt (pos 0)) (sym (to_z-of_z w64 b q)) ∙ h) same

  pub answers_none : (of_z w64 b ≡ 0 → ⊥) → int_lt (pos 0) (to_z w64 (of_z w64 b)) ≡ false → of_z w64 r ≡ 0 → Some (pos 0) ≡ floored_of a b
  answers_none n h z = none_is a b (not_zero b n) (ap (int_lt (pos 0)) (sym (to_z-of_z w64 b q)) ∙ h) (sym same ∙ sym (to_z-of_z w64 r f) ∙ ap (to_z w64) z)

  pub answers_below : (of_z w64 b ≡ 0 → ⊥) → int_lt (pos 0) (to_z w64 (of_z w64 b)) ≡ false → (of_z w64 r ≡ 0 → ⊥)
      → Some (to_z w64 (of_z w64 r) +ℤ to_z w64 (of_z w64 b)) ≡ floored_of a b
  answers_below n h z = ap Some (as_read (λ x y. x +ℤ y) r b f q)
      ∙ below_is a b r (not_zero b n) (ap (int_lt (pos 0)) (sym (to_z-of_z w64 b q)) ∙ h) (not_zero r z) same
