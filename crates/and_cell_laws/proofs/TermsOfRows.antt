-- A row whose cells stand for terms is a most general solution of its own equations.
use Rattle.std.proofs.Common.{ℕ, ◌+◌, ◌≡◌, ◌<◌, ◌≤◌, ◌⊎◌, true, false, List, [], ◌∷◌, length, Some, refl, sym, ap, ◌∙◌, subst, inl, inr, arith}
use Rattle.std.specs.Prelude.{Contains}
use Rattle.std.proofs.lemmas.Bool.{cases_lt, cases_Bool, true≢false}
use Rattle.std.proofs.lemmas.Option.{same_Some}
use Rattle.and_model.specs.Terms.{Path, Term, Substitution, variable, apply, variables_of}
use Rattle.and_model.specs.Solutions.{Solves}
use Rattle.and_model.specs.Store.{is_half}
use Rattle.and_model.specs.declared.reference.Ref.{Ref}
use Rattle.and_model.specs.declared.reference.Ref.TheVariants.{Cell}
use Rattle.and_program.specs.Skeletons.{node_term}
use Rattle.and_cells.specs.Ranges.{NamedProgram}
use Rattle.and_cells.specs.Rows.{IsSound}
use Rattle.and_cells.specs.Seen.{word_at, IsSetTo}
use Rattle.and_cells.specs.Meaning.{StandsFor, unbound, bound, structure, integer, cell_variable, shallow_cells, equations_of, equations_between}
use Rattle.and_cells.proofs.OneTerm.{one_term}
use Rattle.and_laws.proofs.Ordered.{contains_cases, contains_none}
use Rattle.and_laws.proofs.Substitutions.{then, apply_then}
use Rattle.and_cells.specs.Joined.{value}
use Rattle.and_cells.specs.Solved.{HasTerm, AllHaveTerms, IsMostGeneral}
use Rattle.and_cell_laws.proofs.Structures.{in_frame, value_of_node}
use Rattle.and_cells.proofs.OneTerm.{apply_agree}
use Rattle.and_cell_laws.proofs.Images.{contains_origin}
use Rattle.and_cell_laws.proofs.Between.{set_agrees, set_is_below, between_solved}
use Rattle.and_cell_laws.proofs.Told.{told_rows_are_known}

-- What stands for a term is no half,
pub stands_whole : (P : NamedProgram) (row : List Ref) (r : Ref) (u : Term) → StandsFor P row r u → is_half r ≡ false
stands_whole P row r u (unbound cell below free) = refl
stands_whole P row r u (bound cell q t set rest) = refl
stands_whole P row r u (structure node base s all) = refl
stands_whole P row r u (integer pair) = refl

-- nor is the word of such a cell, which is one of the row's.
cell_of_term : (P : NamedProgram) (row : List Ref) (cell : ℕ) (r : Ref) (u : Term) → r ≡ Cell cell → StandsFor P row r u
    → (cell < length row) × (is_half (word_at row cell) ≡ false)
cell_of_term P row cell r u e (unbound other below free) =
    let same : other ≡ cell = cc in
    subst (λ (x : ℕ). (x < length row) × (is_half (word_at row x) ≡ false)) same (below, ap is_half free)
cell_of_term P row cell r u e (bound other q t set rest) =
    let same : other ≡ cell = cc in
    subst (λ (x : ℕ). (x < length row) × (is_half (word_at row x) ≡ false)) same (set_is_below row other q set, ap is_half set.0 ∙ stands_whole P row q t rest)
cell_of_term P row cell r u e (structure node base s all) = absurd (cc)
cell_of_term P row cell r u e (integer pair) = absurd (cc)

-- the first of both
pub cell_is_below : (P : NamedProgram) (row : List Ref) (cell : ℕ) (u : Term) → StandsFor P row (Cell cell) u → cell < length row
cell_is_below P row cell u stands = let both = cell_of_term P row cell (Cell cell) u refl stands in both.0

-- the second
pub cell_is_whole : (P : NamedProgram) (row : List Ref) (cell : ℕ) (u : Term) → StandsFor P row (Cell cell) u → is_half (word_at row cell) ≡ false
cell_is_whole P row cell u stands = let both = cell_of_term P row cell (Cell cell) u refl stands in both.1

-- What a cell is set to stands for the cell's term.
term_of_word : (P : NamedProgram) (row : List Ref) (cell : ℕ) (r q : Ref) (u : Term) → q ≡ Cell cell → IsSetTo row cell r → StandsFor P row q u
    → StandsFor P row r u
term_of_word P row cell r q u e set (unbound other below free) =
    let same : other ≡ cell = cc in
    absurd (set.1 (sym set.0 ∙ ap (word_at row) (sym same) ∙ free))
term_of_word P row cell r q u e set (bound other x t is rest) =
    let same : other ≡ cell = cc in
    let word : x ≡ r = sym is.0 ∙ ap (word_at row) same ∙ set.0 in
    subst (λ (y : Ref). StandsFor P row y t) word rest
term_of_word P row cell r q u e set (structure node base s all) = absurd (cc)
term_of_word P row cell r q u e set (integer pair) = absurd (cc)

-- the same of the cell itself
pub term_of_set : (P : NamedProgram) (row : List Ref) (cell : ℕ) (r : Ref) (u : Term) → IsSetTo row cell r → StandsFor P row (Cell cell) u → StandsFor P row r u
term_of_set P row cell r u set stands = term_of_word P row cell r (Cell cell) u refl set stands

-- None of the cells that it names is a half.
terms_name_no_half : (P : NamedProgram) (row : List Ref) (r : Ref) (u : Term) → StandsFor P row r u → (cell : ℕ) → Contains (shallow_cells P r) cell
    → is_half (word_at row cell) ≡ false
terms_name_no_half P row r u (unbound cell below free) c h =
    elim (contains_cases cell c [] h) [ inl e ↦ ap (λ (x : ℕ). is_half (word_at row x)) e ∙ ap is_half free | inr i ↦ absurd (contains_none c i) ]
terms_name_no_half P row r u (bound cell q t set rest) c h =
    elim (contains_cases cell c [] h) [
      | inl e ↦ ap (λ (x : ℕ). is_half (word_at row x)) e ∙ ap is_half set.0 ∙ stands_whole P row q t rest
      | inr i ↦ absurd (contains_none c i)
    ]
terms_name_no_half P row r u (structure node base s all) c h =
    let (v, at, is) = contains_origin (λ (v : Path × ℕ). base + 1 + v.1) (variables_of (node_term P.skeleton.nodes node.0)) c h in
    ap (λ (x : ℕ). is_half (word_at row x)) is ∙ cell_is_whole P row (base + 1 + v.1) (s v.0 v.1) (all v at)
terms_name_no_half P row r u (integer pair) c h = absurd (contains_none c h)

-- In each solution of the row's equations, a reference has the value that the solution makes of its term.
pub value_of_term : (P : NamedProgram) (row : List Ref) (t : Substitution) (r : Ref) (u : Term) → Solves t (equations_of P row) → StandsFor P row r u
    → value P (word_at row) t r ≡ Some (apply t u)
value_of_term P row t r u s (unbound cell below free) = refl
value_of_term P row t r u s (bound cell q u' set rest) = set_agrees P row t cell q s set (stands_whole P row q u' rest) ∙ value_of_term P row t q u' s rest
value_of_term P row t r u s (structure node base z all) =
    let body : Term = node_term P.skeleton.nodes node.0 in
    let agree : apply (in_frame t base) body ≡ apply (then z t) body =
    apply_agree (in_frame t base) (then z t) body
    (λ v c. same_Some (t [] (base + 1 + v.1)) (apply t (z v.0 v.1)) (value_of_term P row t (Cell (base + 1 + v.1)) (z v.0 v.1) s (all v c))) in
    value_of_node P (word_at row) t node base ∙ ap (λ (x : Term). Some x) (agree ∙ sym (apply_then z t body))
value_of_term P row t r u s (integer pair) = refl

-- The solution: the term that the cell stands for. Where there is none, or the cell is a half, the variable stays.
abbrev pick : (P : NamedProgram) (row : List Ref) → AllHaveTerms P row → (cell : ℕ) → (cell < length row) ⊎ (length row ≤ cell)
    → (is_half (word_at row cell) ≡ true) ⊎ (is_half (word_at row cell) ≡ false) → Term
pick P row all cell (inl below) (inl half) = cell_variable cell
pick P row all cell (inl below) (inr whole) = let found = all cell below whole in found.0
pick P row all cell (inr past) h = cell_variable cell

-- the same for each variable; those of frames stay
abbrev solution : (P : NamedProgram) (row : List Ref) → AllHaveTerms P row → Substitution
solution P row all [] k = pick P row all k (cases_lt k (length row)) (cases_Bool (is_half (word_at row k)))
solution P row all (n ∷ q) k = variable (n ∷ q) k

-- where there is a term, the cell stands for it
pick_stands : (P : NamedProgram) (row : List Ref) (all : AllHaveTerms P row) (cell : ℕ) (d : (cell < length row) ⊎ (length row ≤ cell))
    (h : (is_half (word_at row cell) ≡ true) ⊎ (is_half (word_at row cell) ≡ false)) → cell < length row → is_half (word_at row cell) ≡ false
    → StandsFor P row (Cell cell) (pick P row all cell d h)
pick_stands P row all cell (inl below) (inl half) lt whole = absurd (true≢false (sym half ∙ whole))
pick_stands P row all cell (inl below) (inr no_half) lt whole = let found = all cell below no_half in found.1
pick_stands P row all cell (inr past) h lt whole = absurd (omega arith)

-- A cell that stands for a term has that term in the solution.
solution_is : (P : NamedProgram) (row : List Ref) (all : AllHaveTerms P row) (cell : ℕ) (u : Term) → StandsFor P row (Cell cell) u
    → solution P row all [] cell ≡ u
solution_is P row all cell u stands =
    let below : cell < length row = cell_is_below P row cell u stands in
    let whole : is_half (word_at row cell) ≡ false = cell_is_whole P row cell u stands in
    let picked : StandsFor P row (Cell cell) (solution P row all [] cell) =
    pick_stands P row all cell (cases_lt cell (length row)) (cases_Bool (is_half (word_at row cell))) below whole in
    one_term P row (Cell cell) (solution P row all [] cell) u picked stands

-- So each reference that stands for a term has it for its value.
value_in_solution : (P : NamedProgram) (row : List Ref) (all : AllHaveTerms P row) (r : Ref) (u : Term) → StandsFor P row r u
    → value P (word_at row) (solution P row all) r ≡ Some u
value_in_solution P row all r u (unbound cell below free) =
    ap (λ (x : Term). Some x) (solution_is P row all cell (cell_variable cell) (unbound cell below free))
value_in_solution P row all r u (bound cell q t set rest) = ap (λ (x : Term). Some x) (solution_is P row all cell t (bound cell q t set rest))
value_in_solution P row all r u (structure node base z all') =
    let body : Term = node_term P.skeleton.nodes node.0 in
    let s : Substitution = solution P row all in
    let agree : apply (in_frame s base) body ≡ apply z body =
    apply_agree (in_frame s base) z body (λ v c. solution_is P row all (base + 1 + v.1) (z v.0 v.1) (all' v c)) in
    value_of_node P (word_at row) s node base ∙ ap (λ (x : Term). Some x) agree
value_in_solution P row all r u (integer pair) = refl

-- It solves what the row states of each set word,
solution_solves : (P : NamedProgram) (row : List Ref) (all : AllHaveTerms P row) (place : ℕ) (r : Ref) → IsSetTo row place r → is_half r ≡ false
    → Solves (solution P row all) (equations_between P (word_at row) (Cell place) r)
solution_solves P row all place r set whole =
    let no_half : is_half (word_at row place) ≡ false = ap is_half set.0 ∙ whole in
    let (u, stands) = all place (set_is_below row place r set) no_half in
    let of_word : StandsFor P row r u = term_of_set P row place r u set stands in
    between_solved P (word_at row) (solution P row all) (Cell place) r u (value_in_solution P row all (Cell place) u stands)
    (value_in_solution P row all r u of_word)
    (λ c h. elim (contains_cases place c (shallow_cells P r) h) [
      | inl e ↦ ap (λ (x : ℕ). is_half (word_at row x)) e ∙ no_half
      | inr i ↦ terms_name_no_half P row r u of_word c i
    ])

-- and each other solution goes through it.
pick_goes_through : (P : NamedProgram) (row : List Ref) (all : AllHaveTerms P row) (t : Substitution) → Solves t (equations_of P row)
    → (cell : ℕ) (d : (cell < length row) ⊎ (length row ≤ cell)) (h : (is_half (word_at row cell) ≡ true) ⊎ (is_half (word_at row cell) ≡ false))
    → t [] cell ≡ apply t (pick P row all cell d h)
pick_goes_through P row all t s cell (inl below) (inl half) = refl
pick_goes_through P row all t s cell (inl below) (inr whole) =
    let found : HasTerm P row (Cell cell) = all cell below whole in
    same_Some (t [] cell) (apply t found.0) (value_of_term P row t (Cell cell) found.0 s found.1)
pick_goes_through P row all t s cell (inr past) h = refl

-- the same for each variable
goes_through : (P : NamedProgram) (row : List Ref) (all : AllHaveTerms P row) (t : Substitution) → Solves t (equations_of P row) → (q : Path) (k : ℕ)
    → t q k ≡ apply t (solution P row all q k)
goes_through P row all t s [] k = pick_goes_through P row all t s k (cases_lt k (length row)) (cases_Bool (is_half (word_at row k)))
goes_through P row all t s (n ∷ q) k = refl

-- So it is a most general solution, and gives the cells their terms.
pub rows_with_terms_are_solutions : (P : NamedProgram) (row : List Ref) → IsSound P row → AllHaveTerms P row → IsMostGeneral P row (equations_of P row)
rows_with_terms_are_solutions P row sound all =
    let told = told_rows_are_known P row (solution P row all) in
    record {
      solution = solution P row all;
      most_general = (told.0 (λ place r set whole. solution_solves P row all place r set whole), goes_through P row all);
      of_cells = λ cell below whole. pick_stands P row all cell (cases_lt cell (length row)) (cases_Bool (is_half (word_at row cell))) below whole;
    }
