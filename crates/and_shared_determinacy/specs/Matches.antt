-- Two terms that are made one over any cells.
use Rattle.std.specs.Prelude.{List}
use Rattle.and_model.specs.Terms.{Substitution}
use Rattle.and_model.specs.declared.reference.Ref.{Ref}
use Rattle.and_cells.specs.Ranges.{NamedProgram, IsInRangeOrHalf}
use Rattle.and_cells.specs.Seen.{Seen, IsWrittenIfNumber}
use Rattle.and_cells.specs.Meaning.{Words}
use Rattle.and_unify.specs.declared.pairs.Pair.{Pair}
use Rattle.and_shared_determinacy.specs.Truths.{AreTrue, LearntAreTrue, ArePairsTrue}

-- What a chain ends at can be followed, but for a half.
abbrev pub IsChainEnd : NamedProgram → Seen → Ref → Type 0
IsChainEnd P s r = IsInRangeOrHalf P s.words r × IsWrittenIfNumber s r

-- Where what was known before and what was learnt since is true, and so are these pairs, all that is known now is true.
abbrev pub MatchesAll : NamedProgram → List Pair → (old new : Seen) → Type 0
MatchesAll P asked old new =
    (w : Words) (t : Substitution) → AreTrue P w t old → LearntAreTrue P w t new
    → ArePairsTrue P w t asked → AreTrue P w t new

-- The pairs are never true where what was known before and what was learnt since is.
abbrev pub NeverMatch : NamedProgram → List Pair → (old new : Seen) → Type 0
NeverMatch P asked old new =
    (w : Words) (t : Substitution) → AreTrue P w t old → LearntAreTrue P w t new → ArePairsTrue P w t asked → ⊥
