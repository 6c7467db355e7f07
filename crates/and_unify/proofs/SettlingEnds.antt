-- Where a path goes round or comes to a word of a pair, and the row has a solution, the path's first reference names that word.
use Rattle.std.proofs.Common.{ℕ, ◌+◌, ◌≡◌, true, List, [], refl, subst, inl, inr}
use Rattle.std.specs.Prelude.{Contains}
use Rattle.and_model.specs.Terms.{Path, Substitution, variables_of}
use Rattle.and_model.specs.Solutions.{Solves}
use Rattle.and_model.specs.Store.{is_half}
use Rattle.and_model.specs.declared.reference.Ref.{Ref}
use Rattle.and_model.specs.declared.reference.Ref.TheVariants.{Cell}
use Rattle.and_program.specs.Skeletons.{node_term}
use Rattle.and_cells.specs.Ranges.{NamedProgram}
use Rattle.and_cells.specs.Rows.{IsSound}
use Rattle.and_cells.specs.Seen.{word_at}
use Rattle.and_cells.specs.Meaning
use Rattle.and_cells.specs.Meaning.{Holds, shallow_cells, equations_of}
use Rattle.and_laws.proofs.Ordered.{contains_first, contains_cases, contains_none}
use Rattle.and_cell_laws.proofs.Circles.{holder_is_whole, halves_have_no_term}
use Rattle.and_cell_laws.proofs.Images.{contains_image}

-- the reference names a word of a pair
abbrev pub NamesHalf : NamedProgram → List Ref → Ref → Type 0
NamesHalf P row r = (cell : ℕ) × Contains (shallow_cells P r) cell × (is_half (word_at row cell) ≡ true)

-- A cell that holds a word of a pair is that word.
held_by_cell : (P : NamedProgram) (row : List Ref) (t : Substitution) (start : ℕ) (r : Ref) (cell : ℕ) → IsSound P row
    → Solves t (equations_of P row) → r ≡ Cell start
    → Holds P row r cell → is_half (word_at row cell) ≡ true → is_half (word_at row start) ≡ true
held_by_cell P row t start r cell sound s e (Meaning.here c) half =
    let same : c ≡ start = cc in
    subst (λ (x : ℕ). is_half (word_at row x) ≡ true) same half
held_by_cell P row t start r cell sound s e (Meaning.onward from q c set rest) half =
    absurd (halves_have_no_term P row from c q t sound set (holder_is_whole P row q c rest) rest half s)
held_by_cell P row t start r cell sound s e (Meaning.inside node base v c at rest) half = absurd (cc)

-- A reference that holds a word of a pair names one.
pub names_half : (P : NamedProgram) (row : List Ref) (t : Substitution) (r : Ref) (cell : ℕ) → IsSound P row → Solves t (equations_of P row)
    → Holds P row r cell → is_half (word_at row cell) ≡ true → NamesHalf P row r
names_half P row t r cell sound s (Meaning.here c) half = (c, contains_first c [], half)
names_half P row t r cell sound s (Meaning.onward from q c set rest) half =
    absurd (halves_have_no_term P row from c q t sound set (holder_is_whole P row q c rest) rest half s)
names_half P row t r cell sound s (Meaning.inside node base v c at rest) half =
    let named : ℕ = base + 1 + v.1 in (
      named,
      contains_image (λ (x : Path × ℕ). base + 1 + x.1) (variables_of (node_term P.skeleton.nodes node.0)) v at,
      held_by_cell P row t named (Cell named) c sound s refl rest half,
    )

-- A cell that is no word of a pair names none.
pub cell_names_itself : (P : NamedProgram) (row : List Ref) (cell : ℕ) → NamesHalf P row (Cell cell) → is_half (word_at row cell) ≡ true
cell_names_itself P row cell names =
    let (c, at, half) = names in
    elim (contains_cases cell c [] at) [
      | inl e ↦ subst (λ (x : ℕ). is_half (word_at row x) ≡ true) e half
      | inr i ↦ absurd (contains_none c i)
    ]
