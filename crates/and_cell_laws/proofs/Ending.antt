-- A reference whose paths end stands for a term.
use Rattle.std.proofs.Common.{ℕ, ◌≡◌, ◌<◌, Bool, false, List, length, refl}
use Rattle.std.specs.Prelude.{Contains}
use Rattle.std.proofs.lemmas.Bool.{false≢true}
use Rattle.and_model.specs.Store.{is_half}
use Rattle.and_model.specs.declared.reference.Ref.{Ref}
use Rattle.and_model.specs.declared.reference.Ref.TheVariants.{Free, Cell, Node, Number, Half}
use Rattle.and_program.specs.Skeletons.{AllFall}
use Rattle.and_cells.specs.Ranges.{NamedProgram, IsInRange}
use Rattle.and_cells.specs.Rows.{IsSound}
use Rattle.and_cells.specs.Seen.{word_at, IsSetTo}
use Rattle.and_cells.specs.Meaning.{unbound, bound, integer, cell_variable, number_in}
use Rattle.and_cells.specs.Ends.{Ends, IsBelow}
use Rattle.and_cells.specs.Parts.{parts_of}
use Rattle.and_cells.specs.Solved.{HasTerm}
use Rattle.and_cell_laws.proofs.TermsOfStructures.{structure_has_term}

-- no path from a half ends
ends_whole : (P : NamedProgram) (row : List Ref) (floor : ℕ) (halves : Bool) (r : Ref) → Ends P row floor halves r → is_half r ≡ false
ends_whole P row floor halves Free e = refl
ends_whole P row floor halves (Cell cell) e = refl
ends_whole P row floor halves (Node node base) e = refl
ends_whole P row floor halves (Number pair) e = refl
ends_whole P row floor halves (Half bits) (Ends.low r below) = absurd below

-- A reference whose paths end stands for a term, where each path goes through references that are in range (`Come`), and those below the floor have terms.
pub ends_are_terms : (P : NamedProgram) (row : List Ref) (floor : ℕ) (Come : Ref → Type 0) (r : Ref)
    → AllFall 0 P.skeleton.nodes → IsSound P row
    → ((cell : ℕ) (q : Ref) → Come (Cell cell) → IsSetTo row cell q → is_half q ≡ false → Come q)
    → ((p q : Ref) → Come p → Contains (parts_of P p) q → Come q)
    → ((q : Ref) → Come q → IsInRange P (length row) q)
    → ((q : Ref) → Come q → IsBelow floor q → HasTerm P row q)
    → Come r → Ends P row floor false r → HasTerm P row r
ends_are_terms P row floor Come r fall sound to_word to_part fits under come (Ends.low r' below) = under r come below
ends_are_terms P row floor Come r fall sound to_word to_part fits under come (Ends.free cell word) =
    let below : cell < length row = fits (Cell cell) come in
    (cell_variable cell, unbound cell below word)
ends_are_terms P row floor Come r fall sound to_word to_part fits under come (Ends.half cell e half) = absurd (false≢true e)
ends_are_terms P row floor Come r fall sound to_word to_part fits under come (Ends.set cell q set ends) =
    let whole : is_half q ≡ false = ends_whole P row floor false q ends in
    let term : HasTerm P row q = ends_are_terms P row floor Come q fall sound to_word to_part fits under (to_word cell q come set whole) ends in
    (term.0, bound cell q term.0 set term.1)
ends_are_terms P row floor Come r fall sound to_word to_part fits under come (Ends.parts node base each) =
    structure_has_term P row node base fall (fits (Node node base) come)
    (λ q c. ends_are_terms P row floor Come q fall sound to_word to_part fits under (to_part (Node node base) q come c) (each q c))
ends_are_terms P row floor Come r fall sound to_word to_part fits under come (Ends.number pair) = (number_in (word_at row) pair, integer pair)
