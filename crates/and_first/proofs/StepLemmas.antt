-- The steps of a limit, in order.
use Rattle.std.proofs.Common.{ℕ, suc, ◌*◌, ◌^◌, ◌≡◌, ◌<◌, ◌≤◌, refl, arith, inl, inr}
use Rattle.std.proofs.lemmas.Bool.{cases_lt}
use Rattle.std.proofs.Math.Nat.{pow-suc, pow-le-pow_right, one-le-pow}
use Rattle.and_first.specs.First.{IsStep}
use Rattle.and_first.specs.Steps.{IsNext}

-- No step is beyond the limit.
pub step_within : (limit step : ℕ) → IsStep limit step → step ≤ limit
step_within limit step (inl x) = let below = x.2 in omega (arith, below)
step_within limit step (inr e) = omega (arith, e)

some_power : (n : ℕ) → 1 ≤ 4 ^ n
some_power n = one-le-pow n 4 (omega arith)

-- The first step is 256, or the limit.
pub first_is : (limit : ℕ) → 256 < limit → IsStep limit 256
first_is limit above = inl (0, refl, above)

pub first_least : (limit other : ℕ) → 256 < limit → IsStep limit other → 256 ≤ other
first_least limit other above (inl x) =
    let power : ℕ = 4 ^ x.0 in
    let some : 1 ≤ power = some_power x.0 in
    let is : other ≡ 256 * power = x.1 in
    omega (arith, some, is)
first_least limit other above (inr e) = omega (arith, above, e)

pub only_least : (limit other : ℕ) → limit ≤ 256 → IsStep limit other → limit ≤ other
only_least limit other small (inl x) =
    let power : ℕ = 4 ^ x.0 in
    let some : 1 ≤ power = some_power x.0 in
    let is : other ≡ 256 * power = x.1 in
    omega (arith, small, some, is)
only_least limit other small (inr e) = omega (arith, e)

-- Of the steps below the limit none is between one and four times that.
between : (n m : ℕ) → 256 * 4 ^ m < 4 * (256 * 4 ^ n) → 256 * 4 ^ m ≤ 256 * 4 ^ n
between n m less = elim (cases_lt n m) [
  | inl after ↦
      let next : ℕ = 4 ^ suc n in
      let here : ℕ = 4 ^ n in
      let other : ℕ = 4 ^ m in
      let times : next ≡ here * 4 = pow-suc 4 n in
      let more : suc n ≤ m = omega (arith, after) in
      let grows : next ≤ other = pow-le-pow_right (omega arith) more in
      let below : 256 * other < 4 * (256 * here) = less in
      absurd (omega (arith, times, grows, below))
  | inr before ↦
      let here : ℕ = 4 ^ n in
      let other : ℕ = 4 ^ m in
      let grows : other ≤ here = pow-le-pow_right (omega arith) before in
      omega (arith, grows)
]

none_between : (limit step new other n : ℕ) → step ≡ 256 * 4 ^ n → new ≤ step * 4 → new ≤ limit → IsStep limit other → other < new → other ≤ step
none_between limit step new other n is within small (inl x) less =
    let here : ℕ = 4 ^ n in
    let there : ℕ = 4 ^ x.0 in
    let at : step ≡ 256 * here = is in
    let other_at : other ≡ 256 * there = x.1 in
    let below : 256 * there < 4 * (256 * here) = omega (arith, at, other_at, within, less) in
    let most : 256 * there ≤ 256 * here = between n x.0 below in
    omega (arith, at, other_at, most)
none_between limit step new other n is within small (inr e) less = absurd (omega (arith, e, small, less))

-- The next step is four times as much,
pub next_is : (limit step : ℕ) → IsStep limit step → step < limit → step * 4 < limit → IsNext limit step (step * 4)
next_is limit step (inl x) below small =
    let here : ℕ = 4 ^ x.0 in
    let next : ℕ = 4 ^ suc x.0 in
    let at : step ≡ 256 * here = x.1 in
    let some : 1 ≤ here = some_power x.0 in
    let times : next ≡ here * 4 = pow-suc 4 x.0 in
    let goes : step * 4 ≡ 256 * next = omega (arith, at, times) in
    record {
      is_step = inl (suc x.0, goes, small);
      more = omega (arith, at, some);
      none_between = λ other is less. none_between limit step (step * 4) other x.0 x.1 (omega arith) (omega (arith, small)) is less;
    }
next_is limit step (inr e) below small = absurd (omega (arith, e, below))

-- or the limit.
pub last_is : (limit step : ℕ) → IsStep limit step → step < limit → limit ≤ step * 4 → IsNext limit step limit
last_is limit step (inl x) below large = record {
  is_step = inr refl;
  more = below;
  none_between = λ other is less. none_between limit step limit other x.0 x.1 large (omega arith) is less;
}
last_is limit step (inr e) below large = absurd (omega (arith, e, below))
