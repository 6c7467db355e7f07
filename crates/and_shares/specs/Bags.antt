-- Lists of items in whatever order (this project's own).
use Rattle.std.specs.Prelude.{◌≡◌, ℕ, ◌+◌, List, [], ◌∷◌}

-- the weights of the items, added up
abbrev pub weigh : {T : Type 0} → (T → ℕ) → List T → ℕ
weigh weight [] = 0
weigh weight (x ∷ xs) = weight x + weigh weight xs

-- Each item stands in both lists the same number of times: the lists weigh the same, however items are weighed.
abbrev pub SameBag : {T : Type 0} → List T → List T → Type 0
SameBag {T} xs ys = (weight : T → ℕ) → weigh weight xs ≡ weigh weight ys
