-- What follows from what was known and from pairs.
use Rattle.std.specs.Prelude.{◌≡◌, true, List, ◌∷◌, ◌++◌, MatchOption}
use Rattle.and_model.specs.Terms.{Substitution}
use Rattle.and_model.specs.Solutions.{Solves}
use Rattle.and_model.specs.Store.{Known}
use Rattle.and_model.specs.declared.reference.Ref.{Ref}
use Rattle.and_model.specs.declared.reference.Ref.TheVariants.{Cell}
use Rattle.and_cells.specs.Ranges.{NamedProgram}
use Rattle.and_cells.specs.Seen.{Seen}
use Rattle.and_cells.specs.Meaning.{Words, equations_between}
use Rattle.and_cells.specs.Known.{HasKnown, SolvesKnown, SolvesSettings}
use Rattle.and_unify.specs.declared.pairs.Pair.{Pair}
use Rattle.and_unify.specs.Pairs.{equations_of_pairs}

-- Each word that was set here follows from the pairs and from what was known before it.
abbrev pub OwnFollow : NamedProgram → List Pair → (old new : Seen) → Type 0
OwnFollow P pairs old new =
    (before after : List Known) (k : Known) → new.known ≡ old.known ++ before ++ k ∷ after → k.is_own ≡ true
    → (w : Words) → HasKnown new w → (t : Substitution) → SolvesSettings P w (old.known ++ before) t
    → Solves t (equations_of_pairs P w pairs)
    → Solves t (equations_between P w (Cell k.setting.place) k.setting.value)

-- All that is known now follows from the pairs and from what was known.
abbrev pub NewFollow : NamedProgram → List Pair → (old new : Seen) → Type 0
NewFollow P pairs old new =
    (w : Words) → HasKnown new w → (t : Substitution) → SolvesKnown P w old t → Solves t (equations_of_pairs P w pairs)
    → SolvesKnown P w new t

-- What these cells set follows: where the row is told, all that is known now, since none but these cells set it; else
-- each own setting in its turn.
abbrev pub Follows : NamedProgram → List Pair → (old new : Seen) → Type 0
Follows P pairs old new =
    MatchOption old.told (OwnFollow P pairs old new) (λ (row : List Ref). NewFollow P pairs old new)
