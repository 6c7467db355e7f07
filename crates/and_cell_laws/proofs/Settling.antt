-- A row is settled exactly where each cell but the words of pairs stands for a term.
use Rattle.std.proofs.Common.{ℕ, zero, suc, ◌+◌, ◌≡◌, ◌<◌, ◌≤◌, ◌⊎◌, false, List, [], ◌∷◌, length, refl, sym, ap, ◌∙◌, subst, inl, inr, arith}
use Rattle.std.specs.Prelude.{Contains, ◌↔◌}
use Rattle.std.proofs.lemmas.Bool.{cases_eq, cases_Bool, true≢false}
use Rattle.std.proofs.lemmas.List.Elements.{All-contains}
use Rattle.and_model.specs.Terms.{Path, variables_of}
use Rattle.and_model.specs.Store.{is_half}
use Rattle.and_model.specs.declared.reference.Ref.{Ref}
use Rattle.and_model.specs.declared.reference.Ref.TheVariants.{Free, Cell, Node, Number, Half}
use Rattle.and_program.specs.Skeletons.{node_term}
use Rattle.and_cells.specs.Ranges.{NamedProgram, IsInRange, CanHold}
use Rattle.and_cells.specs.Rows.{IsSound, plain}
use Rattle.and_cells.specs.Seen.{Seen, Knows, word_at, IsSetTo, LeadsTo, here, onward}
use Rattle.and_cells.specs.Meaning
use Rattle.and_cells.specs.Meaning.{Holds, IsCircle, IsSettled, StandsFor, unbound, bound, integer, cell_variable, number_in}
use Rattle.and_laws.proofs.Ordered.{contains_first, contains_more, contains_cases, contains_none}
use Rattle.and_cells.specs.Solved.{HasTerm, AllHaveTerms}
use Rattle.and_cell_laws.proofs.Circles.{structure_in_range, circles_have_no_solution, halves_have_no_term}
use Rattle.and_cell_laws.proofs.TermsOfStructures.{node_has_term}
use Rattle.and_cell_laws.proofs.TermsOfRows.{rows_with_terms_are_solutions}

-- all numbers below this one
abbrev numbers : ℕ → List ℕ
numbers zero = []
numbers (suc n) = n ∷ numbers n

-- each of them is there
numbers_contain : (n x : ℕ) → x < n → Contains (numbers n) x
numbers_contain zero x below = absurd (omega arith)
numbers_contain (suc n) x below = elim (cases_eq x n) [
  | inl e ↦ subst (λ (y : ℕ). Contains (numbers (suc n)) y) (sym e) (contains_first n (numbers n))
  | inr other ↦ contains_more n x (numbers n) (numbers_contain n x (omega (arith, other)))
]

-- A number that is in a list can be taken out, and all others stay.
without : (n : ℕ) (xs : List ℕ) → Contains xs n → (rest : List ℕ) × (suc (length rest) ≡ length xs) × ((x : ℕ) → Contains xs x → (x ≡ n) ⊎ Contains rest x)
without n [] h = absurd (contains_none n h)
without n (y ∷ xs) h = elim (contains_cases y n xs h) [
  | inl e ↦ (xs, refl, λ x i. elim (contains_cases y x xs i) [ inl same ↦ inl (same ∙ sym e) | inr j ↦ inr j ])
  | inr i ↦
      let taken : (rest : List ℕ) × (suc (length rest) ≡ length xs) × ((x : ℕ) → Contains xs x → (x ≡ n) ⊎ Contains rest x) = without n xs i in (
        y ∷ taken.0,
        ap suc taken.1,
        λ x j. elim (contains_cases y x xs j) [
          | inl same ↦ inr (subst (λ (z : ℕ). Contains (y ∷ taken.0) z) (sym same) (contains_first y taken.0))
          | inr k ↦ elim (taken.2 x k) [ inl e ↦ inl e | inr m ↦ inr (contains_more y x taken.0 m) ]
        ],
      )
]

-- What holds a cell holds what that holds.
holds_then : (P : NamedProgram) (row : List Ref) (r : Ref) (cell to : ℕ) → Holds P row r cell → Holds P row (Cell cell) to → Holds P row r to
holds_then P row r cell to (Meaning.here c) more = more
holds_then P row r cell to (Meaning.onward start q c set rest) more = Meaning.onward start q to set (holds_then P row q c to rest more)
holds_then P row r cell to (Meaning.inside node base v c at rest) more =
    Meaning.inside node base v to at (holds_then P row (Cell (base + 1 + v.1)) c to rest more)

-- A chain to a cell goes on to what that is known to be set to.
leads_on : (s : Seen) (r p q : Ref) (cell : ℕ) → p ≡ Cell cell → Knows s cell q → LeadsTo s r p → LeadsTo s r q
leads_on s r p q cell e knows (here x) = subst (λ (y : Ref). LeadsTo s y q) (sym e) (onward cell q q knows (here q))
leads_on s r p q cell e knows (onward start x y known rest) = onward start x q known (leads_on s x y q cell e knows rest)

-- a cell that is set to a cell is set to one before it
falls : (P : NamedProgram) (row : List Ref) (place cell : ℕ) (r : Ref) → IsSound P row → IsSetTo row place r → r ≡ Cell cell → cell < place
falls P row place cell r sound set e =
    let fits : CanHold P (length row) place (word_at row place) = sound.fits place in
    subst (λ (q : Ref). CanHold P (length row) place q) (set.0 ∙ e) fits

-- A chain from a cell goes down; so where its end holds the cell, a structure stands between.
chain_is_circle : (P : NamedProgram) (row : List Ref) (cell : ℕ) (r : Ref) → IsSound P row → LeadsTo (plain row) (Cell cell) r
    → ((x : ℕ) → r ≡ Cell x → x < cell) → Holds P row r cell → IsCircle P row cell
chain_is_circle P row cell r sound leads down (Meaning.here c) = let lower : c < c = down c refl in absurd (omega arith)
chain_is_circle P row cell r sound leads down (Meaning.onward start q c set rest) =
    let lower : start < c = down start refl in
    chain_is_circle P row c q sound (leads_on (plain row) (Cell c) (Cell start) q start refl set leads)
    (λ x e. let next : x < start = falls P row start x q sound set e in omega arith) rest
chain_is_circle P row cell r sound leads down (Meaning.inside node base v c at rest) =
    record { node = node; base = base; leads = leads; holds = Meaning.inside node base v c at rest }

-- The word of one cell holds the other.
abbrev Precedes : NamedProgram → List Ref → (cell to : ℕ) → Type 0
Precedes P row cell to = (q : Ref) × IsSetTo row cell q × Holds P row q to

-- A cell whose word holds it is a circle.
preceding_is_circle : (P : NamedProgram) (row : List Ref) (cell : ℕ) → IsSound P row → Precedes P row cell cell → IsCircle P row cell
preceding_is_circle P row cell sound (q, set, holds) =
    chain_is_circle P row cell q sound (onward cell q q set (here q)) (λ x e. falls P row cell x q sound set e) holds

-- A cell has a term where all have that its word holds.
term_by_word : (P : NamedProgram) (row : List Ref) (cell : ℕ) (r : Ref) → IsSound P row → cell < length row → is_half r ≡ false → word_at row cell ≡ r
    → ((to : ℕ) → IsSetTo row cell r → Holds P row r to → to < length row → HasTerm P row (Cell to)) → HasTerm P row (Cell cell)
term_by_word P row cell Free sound below whole word next = (cell_variable cell, unbound cell below word)
term_by_word P row cell (Cell to) sound below whole word next =
    let set : IsSetTo row cell (Cell to) = (word, λ e. absurd (cc)) in
    let lower : to < cell = falls P row cell to (Cell to) sound set refl in
    let term : HasTerm P row (Cell to) = next to set (Meaning.here to) (omega arith) in
    (term.0, bound cell (Cell to) term.0 set term.1)
term_by_word P row cell (Node node base) sound below whole word next =
    let set : IsSetTo row cell (Node node base) = (word, λ e. absurd (cc)) in
    let fits : IsInRange P (length row) (Node node base) = structure_in_range P row cell node base sound set in
    let vs : List (Path × ℕ) = variables_of (node_term P.skeleton.nodes node.0) in
    let term : HasTerm P row (Node node base) = node_has_term P row node base (λ v at.
    next (base + 1 + v.1) set (Meaning.inside node base v (base + 1 + v.1) at (Meaning.here (base + 1 + v.1)))
    (All-contains (λ (x : Path × ℕ). base + 1 + x.1 < length row) vs v fits.0.cells at)) in
    (term.0, bound cell (Node node base) term.0 set term.1)
term_by_word P row cell (Number pair) sound below whole word next =
    (number_in (word_at row) pair, bound cell (Number pair) (number_in (word_at row) pair) (word, λ e. absurd (cc)) (integer pair))
term_by_word P row cell (Half bits) sound below whole word next = absurd (true≢false whole)

-- The search along paths: each cell of the row is left, or precedes the one at hand. So what is left becomes less, unless a path comes back.
find_term : (P : NamedProgram) (row : List Ref) (fuel : ℕ) (left : List ℕ) (cell : ℕ) → IsSound P row → IsSettled P row → length left ≤ fuel
    → ((x : ℕ) → x < length row → Contains left x ⊎ Precedes P row x cell) → cell < length row → is_half (word_at row cell) ≡ false → HasTerm P row (Cell cell)
find_term P row zero left cell sound settled few all below whole = elim (all cell below) [
  | inl there ↦ let some = there.1 in absurd (omega arith)
  | inr back ↦ absurd (settled.no_circle cell (preceding_is_circle P row cell sound back))
]
find_term P row (suc fuel) left cell sound settled few all below whole = elim (all cell below) [
  | inl there ↦
      let (rest, less, kept) = without cell left there in
      let word : Ref = word_at row cell in
      term_by_word P row cell word sound below whole refl (λ to set holds inside.
      let no_half : is_half (word_at row to) ≡ false = settled.no_half cell word to set whole holds in
      find_term P row fuel rest to sound settled (omega arith) (λ x lt. elim (all x lt) [
        | inl among ↦ elim (kept x among) [
          | inl e ↦ inr (subst (λ (y : ℕ). Precedes P row y to) (sym e) (word, set, holds))
          | inr still ↦ inl still
        ]
        | inr before ↦ inr (before.0, before.1, holds_then P row before.0 cell to before.2 (Meaning.onward cell word to set holds))
      ]) inside no_half)
  | inr back ↦ absurd (settled.no_circle cell (preceding_is_circle P row cell sound back))
]

-- At the start each cell is left.
settled_have_terms : (P : NamedProgram) (row : List Ref) → IsSound P row → IsSettled P row → AllHaveTerms P row
settled_have_terms P row sound settled cell below whole =
    find_term P row (length (numbers (length row))) (numbers (length row)) cell sound settled (omega arith)
    (λ x lt. inl (numbers_contain (length row) x lt)) below whole

-- A row whose cells have terms has a solution, and so neither circles nor halves in terms.
terms_settle : (P : NamedProgram) (row : List Ref) → IsSound P row → AllHaveTerms P row → IsSettled P row
terms_settle P row sound all =
    let general = rows_with_terms_are_solutions P row sound all in
    let solves = general.most_general.0 in
    record {
      no_circle = λ cell circle. circles_have_no_solution P row cell general.solution sound circle solves;
      no_half = λ place r cell set whole holds. elim (cases_Bool (is_half (word_at row cell))) [
        | inl half ↦ absurd (halves_have_no_term P row place cell r general.solution sound set whole holds half solves)
        | inr no_half ↦ no_half
      ];
    }

-- both directions
pub settled_rows_have_terms : (P : NamedProgram) (row : List Ref) → IsSound P row → IsSettled P row ↔ AllHaveTerms P row
settled_rows_have_terms P row sound = (settled_have_terms P row sound, terms_settle P row sound)
