-- Codes of proof trees and their lexicographic order. A code is a list of clause numbers (this project's own; the
-- order is the dictionary's).
use Rattle.std.specs.Prelude.{◌≡◌, ◌<◌, ◌⊎◌, ℕ, List, ◌∷◌, ◌++◌, map}
use Rattle.and_model.specs.declared.numbers.ClauseNo.{ClauseNo}

-- the numbers of the clauses
abbrev pub numbers_of : List ClauseNo → List ℕ
numbers_of clauses = map (λ c. c.0) clauses

-- the longer code goes on where the shorter one ends
abbrev pub IsProperPrefix : List ℕ → List ℕ → Type 0
IsProperPrefix short long = (clause : ℕ) × (rest : List ℕ) × (long ≡ short ++ clause ∷ rest)

-- where the two first differ, the one has the smaller number
abbrev pub IsFirstSmaller : List ℕ → List ℕ → Type 0
IsFirstSmaller one other =
    (common : List ℕ) × (small : ℕ) × (large : ℕ) × (rest : List ℕ) × (others : List ℕ)
    × (small < large) × (one ≡ common ++ small ∷ rest) × (other ≡ common ++ large ∷ others)

-- the one comes before the other in the lexicographic order
abbrev pub Precedes : List ℕ → List ℕ → Type 0
Precedes one other = IsProperPrefix one other ⊎ IsFirstSmaller one other
