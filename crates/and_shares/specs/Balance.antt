-- What was put into a queue is what was taken from it and what it holds (this project's own).
use Rattle.std.specs.Prelude.{◌≡◌, ℕ, ◌+◌, List, [], ◌∷◌}
use mathlib.Core.Option.{some}
use lib.ListN.{get_elem?}
use Rattle.and_shares.specs.declared.share.Share.{Share}
use Rattle.and_shares.specs.Bags.{weigh}

abbrev pub share : {T : Type 0} → (parts : ℕ) → (put taken : List T) → Share T
share parts put taken = record { parts = parts; put = put; taken = taken }

abbrev pub total : {T : Type 0} → (Share T → ℕ) → List (Share T) → ℕ
total f [] = 0
total f (v ∷ vs) = f v + total f vs

-- a pass with no part has put and taken nothing
abbrev pub IdleIsEmpty : {T : Type 0} → List (Share T) → Type 0
IdleIsEmpty {T} views = (port : ℕ) (v : Share T) → get_elem? views port ≡ some v → v.parts ≡ 0
    → (v.put ≡ []) × (v.taken ≡ [])

-- all passes together have so many parts, and what they put is what they took and what the queue holds
abbrev pub Balanced : {T : Type 0} → (parts : ℕ) → List T → List (Share T) → Type 0
Balanced {T} parts items views =
    (total (λ v. v.parts) views ≡ parts)
    × ((weight : T → ℕ) → total (λ v. weigh weight v.put) views
    ≡ total (λ v. weigh weight v.taken) views + weigh weight items)
    × IdleIsEmpty views

-- to a pass with all parts: what was put is what was taken and these items
abbrev pub HasLeft : {T : Type 0} → (parts : ℕ) → Share T → List T → Type 0
HasLeft {T} parts v items = v.parts ≡ parts → (weight : T → ℕ)
    → weigh weight v.put ≡ weigh weight v.taken + weigh weight items
