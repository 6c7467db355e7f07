-- Numbers that are written with digits.
use Rattle.std.proofs.Common.{ℕ, suc, ◌+◌, ◌-◌, ◌*◌, ◌≡◌, ◌≤◌, ◌<◌, [], ◌∷◌, length, drop, get_or, drop-cons, arith}
use Rattle.and_model.specs.Lines.{Bytes}
use Rattle.and_language.specs.Tokens.{number_of, number_behind}

number_grows : (n : ℕ) (bs : Bytes) → n ≤ number_behind n bs
number_grows n [] = omega arith
number_grows n (b ∷ bs) = let h : n * 10 + (b - 48) ≤ number_behind (n * 10 + (b - 48)) bs = number_grows (n * 10 + (b - 48)) bs in omega arith

-- a number with more than 18 digits of that size, and one more behind them
pub number_large : (n i : ℕ) (ds : Bytes) → i < length ds → number_behind n (drop i ds) ≡ number_of ds → 922337203685477580 < n
    → 9223372036854775808 < number_of ds
number_large n i ds lt e big =
    let opened : drop i ds ≡ get_or ds i 0 ∷ drop (suc i) ds = drop-cons ds i 0 lt in
    let h : n * 10 + (get_or ds i 0 - 48) ≤ number_behind (n * 10 + (get_or ds i 0 - 48)) (drop (suc i) ds) =
    number_grows (n * 10 + (get_or ds i 0 - 48)) (drop (suc i) ds) in
    let same : number_behind n (get_or ds i 0 ∷ drop (suc i) ds) ≡ number_of ds = rw opened at e in
    omega arith
