-- What passes know of the queue of numbers (this project's own).
use Rattle.std.specs.Prelude.{ℕ, zero, suc, List, [], ◌∷◌, ◌++◌}
use Rattle.and_shares.specs.declared.share.Share.{Share}
use Rattle.and_shares.specs.Balance.{Balanced}

-- all passes together have nine parts
abbrev pub IsBalanced : List ℕ → List (Share ℕ) → Type 0
IsBalanced numbers views = Balanced 9 numbers views

-- the numbers below this one, in order
abbrev pub below : ℕ → List ℕ
below zero = []
below (suc n) = below n ++ n ∷ []
