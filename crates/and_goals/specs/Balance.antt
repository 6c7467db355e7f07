-- What passes know of a deque of goals (this project's own).
use Rattle.std.specs.Prelude.{◌≡◌, ℕ, ◌⊎◌, List, [], ◌∷◌, ◌++◌}
use mathlib.Core.Option.{some}
use lib.ListN.{get_elem?}
use Rattle.and_model.specs.declared.goal.Goal.{Goal}
use Rattle.and_shares.specs.declared.share.Share.{Share}
use Rattle.and_shares.specs.Bags.{SameBag}
use Rattle.and_shares.specs.Balance.{share, Balanced}

-- all passes of a deque together have eight parts
abbrev pub IsBalanced : List Goal → List (Share Goal) → Type 0
IsBalanced goals views = Balanced 8 goals views

-- at one moment the deque held nothing, and this pass knew then what it knows
abbrev pub WasEmpty : Share Goal → Type 0
WasEmpty v = (views : List (Share Goal)) × (port : ℕ) × IsBalanced [] views × (get_elem? views port ≡ some v)

-- a goal was taken and joined the end of a list, or the deque was found empty
abbrev pub MovesOne : (v w : Share Goal) → (old new : List Goal) → Type 0
MovesOne v w old new =
    ((goal : Goal) × (w ≡ share v.parts v.put (v.taken ++ goal ∷ [])) × (new ≡ old ++ goal ∷ []))
    ⊎ ((w ≡ v) × (new ≡ old) × WasEmpty v)

-- what was put and not taken joined the end of a list
abbrev pub MovesRest : Share Goal → (old new : List Goal) → Type 0
MovesRest v old new = (rest : List Goal) × (new ≡ old ++ rest) × SameBag v.put (v.taken ++ rest)
