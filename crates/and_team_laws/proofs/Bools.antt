-- Whether one of several holds.
use Rattle.std.proofs.Common.{Bool, true, false, ◌||◌, ◌≡◌, refl, true≢false}

pub or_assoc : (a b c : Bool) → a || (b || c) ≡ (a || b) || c
or_assoc false b c = refl
or_assoc true b c = refl

pub or_false : (a : Bool) → a || false ≡ a
or_false false = refl
or_false true = refl

-- of three, the second and the first may change places
pub or_swap : (a b c : Bool) → a || (b || c) ≡ b || (a || c)
or_swap false b c = refl
or_swap true false c = refl
or_swap true true c = refl

-- where neither is so, each is not
pub or_neither : (a b : Bool) → a || b ≡ false → (a ≡ false) × (b ≡ false)
or_neither false b e = (refl, e)
or_neither true b e = absurd (true≢false e)
