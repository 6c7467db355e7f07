-- Calls that were judged: the one clause that is left, and the cell that a call waits for.
use Rattle.std.proofs.Common.{ℕ, ◌≡◌, ◌<◌, List, [], ◌∷◌, length, Some, refl, ap, subst, arith}
use Rattle.std.specs.Prelude.{slice_get}
use Rattle.std.proofs.lemmas.Option.{same_Some}
use Rattle.and_model.specs.declared.goal.Goal.{Goal}
use Rattle.and_model.specs.declared.reference.Ref.{Ref}
use Rattle.and_model.specs.declared.reference.Ref.TheVariants.{Cell}
use Rattle.and_program.specs.Skeletons.{AllFall}
use Rattle.and_cells.specs.Ranges.{NamedProgram, CanHold, IsInRange}
use Rattle.and_cells.specs.Seen.{Seen, OnlyReads, LeadsTo}
use Rattle.and_overlay.specs.Overlaid.{IsKnownFit}
use Rattle.and_clause_index.specs.Selecting.{GoalWaitsOn}
use Rattle.and_shared_determinacy.proofs.Awaited.{argument_follows}

-- the only element of a list
pub one_of : {X : Type 0} (xs : List X) (x : X) → length xs ≡ 1 → slice_get xs 0 ≡ Some x → xs ≡ x ∷ []
one_of [] x one at = absurd (omega arith)
one_of (y ∷ []) x one at = ap (λ z. z ∷ []) (same_Some y x at)
one_of (y ∷ z ∷ xs) x one at = absurd (omega arith)

-- Where what is known fits the row, a chain that begins in the row ends in it.
chain_stays : (P : NamedProgram) (s : Seen) → IsKnownFit P s → (r to : Ref) → ((c : ℕ) → r ≡ Cell c → c < s.words) → LeadsTo s r to
    → (c : ℕ) → to ≡ Cell c → c < s.words
chain_stays P s fit r to low (LeadsTo.here x) = low
chain_stays P s fit r to low (LeadsTo.onward cell x y knows rest) =
    chain_stays P s fit x to
    (λ c e. let f = fit cell x knows in
    let below : CanHold P s.words cell (Cell c) = subst (CanHold P s.words cell) e f.1 in
    let there = f.0 in
    omega arith) rest

-- The cell that a call waits for is one of the row.
pub awaited_is_low : (P : NamedProgram) → AllFall 0 P.skeleton.nodes → (shared : ℕ) (g : Goal) (old new : Seen) (cell : ℕ) → OnlyReads old new
    → IsKnownFit P new → GoalWaitsOn P shared g old new cell → cell < new.words
awaited_is_low P fall shared g old new cell reads fit (node, over, waits) =
    let range = (argument_follows P fall old.words new node g.base waits.place waits.argument reads.words over.in_range waits.there).0 in
    chain_stays P new fit waits.argument (Cell cell) (λ c e. subst (IsInRange P new.words) e range) waits.leads cell refl
