-- The clauses of a predicate by the marks that their heads have at one place of their prints.
use Rattle.std.specs.Prelude.{ℕ, ◌≡◌, ◌≢◌, ◌<◌, ◌⊎◌, List, [], ◌∷◌, ◌++◌, length, get_or, if◌then◌else◌, Option, Some, None}
use Rattle.std.specs.Prelude.{slice_set, slice_index_or}
use Rattle.and_model.specs.declared.numbers.ClauseNo.{ClauseNo}
use Rattle.and_clause_index.specs.Prints.{differ, no_print}
use Rattle.and_clause_index.specs.declared.prints.Print.{Print}
use Rattle.and_clause_index.specs.declared.sieve.Place.{Place}
use Rattle.and_clause_index.specs.declared.sieve.Place.TheVariants as places
use Rattle.and_clause_index.specs.declared.sieve.Sieve.{Sieve}

-- the mark of a print at a place
abbrev pub mark_in : Print → Place → ℕ
mark_in p places.First = p.first.own
mark_in p places.FirstOfFirst = p.first.first
mark_in p places.SecondOfFirst = p.first.second
mark_in p places.Second = p.second.own
mark_in p places.FirstOfSecond = p.second.first
mark_in p places.SecondOfSecond = p.second.second
mark_in p places.Third = p.third
mark_in p places.Fourth = p.fourth

-- the print of a clause's head, by the list of all
abbrev pub print_in : List Print → ClauseNo → Print
print_in prints c = get_or prints c.0 no_print

-- those of some clauses that a mark at a place does not tell apart
abbrev pub sifted : (ClauseNo → Print) → Place → ℕ → List ClauseNo → List ClauseNo
sifted print place m [] = []
sifted print place m (c ∷ cs) =
    if differ m (mark_in (print c) place) then sifted print place m cs else c ∷ sifted print place m cs

-- The sieve, if there is one, has of these clauses those that a mark does not tell apart.
abbrev pub IsSieveOf : (ClauseNo → Print) → List ClauseNo → Option Sieve → Type 0
IsSieveOf print clauses None = Unit {0}
IsSieveOf print clauses (Some sieve) =
    (m : ℕ) → m ≢ 0 → m < 256 → get_or sieve.rows.items m [] ≡ sifted print sieve.place m clauses

-- They are the clauses, or those that the sieve has for the mark of a print.
abbrev pub IsShorter : Sieve → Print → (old new : List ClauseNo) → Type 0
IsShorter sieve print old new =
    (new ≡ old)
    ⊎ ((mark_in print sieve.place ≢ 0) × (mark_in print sieve.place < 256)
    × (new ≡ get_or sieve.rows.items (mark_in print sieve.place) []))

-- ---- While it is made

-- So many rows, and no clause in any.
pub record AreEmpty (many : ℕ) (rows : List (List ClauseNo)) : Type 0 where
  pub many_are : length rows ≡ many
  pub empty : (m : ℕ) → get_or rows m [] ≡ []

-- the rows with a clause at the end of that of a mark
abbrev pub with_put : List (List ClauseNo) → ℕ → ClauseNo → List (List ClauseNo)
with_put rows mark clause = slice_set rows mark (slice_index_or rows mark [] ++ clause ∷ [])
