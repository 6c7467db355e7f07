-- Choices by a test.
use Rattle.std.proofs.Common.{◌≡◌, Bool, true, false, not, cond, ◌&&◌, ◌||◌, refl}

-- what holds of both values holds of the chosen one
pub either_way : {A : Type 0} (P : A → Type 0) (b : Bool) (x y : A) → (b ≡ true → P x) → (b ≡ false → P y) → P (cond b x y)
either_way P true x y f g = f refl
either_way P false x y f g = g refl

pub first_choice : {A : Type 0} (b : Bool) (x y : A) → b ≡ true → cond b x y ≡ x
first_choice b x y e = rw e refl

pub second_choice : {A : Type 0} (b : Bool) (x y : A) → b ≡ false → cond b x y ≡ y
second_choice b x y e = rw e refl

pub and_true : (a b : Bool) → a && b ≡ true → (a ≡ true) × (b ≡ true)
and_true true b e = (refl, e)
and_true false b e = absurd cc

pub both_true : (a b : Bool) → a ≡ true → b ≡ true → a && b ≡ true
both_true a b p q = rw (p, q) refl

pub or_false : (a b : Bool) → a || b ≡ false → (a ≡ false) × (b ≡ false)
or_false true b e = absurd cc
or_false false b e = (refl, e)

pub both_false : (a b : Bool) → a ≡ false → b ≡ false → a || b ≡ false
both_false a b p q = rw (p, q) refl

pub not_true : (b : Bool) → not b ≡ true → b ≡ false
not_true true e = absurd cc
not_true false e = refl
