-- What a call of unification does with pairs, and what it takes of the fuel.
use Rattle.std.specs.Prelude.{ℕ, suc, ◌≡◌, ◌≢◌, ◌⊎◌, ◌+◌, List, []}
use Rattle.and_model.specs.Terms.{Substitution}
use Rattle.and_model.specs.Solutions.{Solves}
use Rattle.and_model.specs.declared.reference.Ref.{Ref}
use Rattle.and_cells.specs.Ranges.{NamedProgram}
use Rattle.and_cells.specs.Seen.{Seen}
use Rattle.and_cells.specs.Meaning.{Words}
use Rattle.and_cells.specs.Known.{HasKnown, SolvesKnown}
use Rattle.and_unify.specs.declared.pairs.Pair.{Pair}
use Rattle.and_unify.specs.declared.unifying.Unified.{Unified}
use Rattle.and_unify.specs.declared.unifying.Unified.TheVariants.{Same, Apart, PutOff, Memory}
use Rattle.and_unify.specs.Pairs.{equations_of_pairs, AreInRange, AreWritten, NameNoHalf, AreApart}
use Rattle.and_unify.specs.Places.{left_sides, sides, IsPlace, Places}
use Rattle.and_unify.specs.Following.{Follows}

-- What becomes of the pairs that were asked for. Those that are left to do stay in the list.
pub record Unifies (P : NamedProgram) (old new : Seen) (asked left : List Pair) (answer : Unified) : Type 0 where
  -- Only what follows from the pairs and what was known is set.
  pub follows : Follows P asked old new
  pub same : answer ≡ Same → left ≡ []
  -- The pairs that are left ask for the same as all pairs did, under what is known now.
  pub equal : (answer ≡ Same) ⊎ (answer ≡ PutOff) → (w : Words) → HasKnown new w → NameNoHalf P w asked
      → (t : Substitution) → SolvesKnown P w new t → Solves t (equations_of_pairs P w left)
      → Solves t (equations_of_pairs P w asked)
  pub still_asked : answer ≡ PutOff → (w : Words) → HasKnown new w → (t : Substitution) → SolvesKnown P w new t
      → Solves t (equations_of_pairs P w asked) → Solves t (equations_of_pairs P w left)
  pub in_range : answer ≡ PutOff → AreInRange P new.words left × AreWritten new left
  -- Two that are apart leave the pairs no solution.
  pub apart : (one other : Ref) → answer ≡ Apart one other → AreApart P new one other
      × ((w : Words) → HasKnown new w → (t : Substitution) → SolvesKnown P w new t
      → Solves t (equations_of_pairs P w asked) → ⊥)
  -- The pairs lead to these two.
  pub apart_at : (one other : Ref) → answer ≡ Apart one other
      → IsPlace P new (sides asked) one × IsPlace P new (sides asked) other

-- the fuel that is gone, and so many places of the left sides
abbrev pub HasSpent : NamedProgram → List Pair → (now : Seen) (fuel rest : ℕ) → Type 0
HasSpent P asked now fuel rest = (count : ℕ) × (fuel ≡ rest + count) × Places P now (left_sides asked) count

-- Each place of a left side that was come to took 1 of the fuel. It is used up with a pair left only where the left
-- sides have more places than there was fuel.
pub record Spends (P : NamedProgram) (new : Seen) (asked left : List Pair) (fuel rest : ℕ)
    (answer : Unified) : Type 0 where
  pub spent : answer ≢ Memory → HasSpent P asked new fuel rest
  pub put_off : answer ≡ PutOff → (rest ≡ 0) × (left ≢ []) × Places P new (left_sides asked) (suc fuel)
