-- The equations of rows that were widened or settled.
use Rattle.std.proofs.Common.{ℕ, zero, suc, ◌+◌, ◌-◌, ◌≡◌, ◌≢◌, ◌<◌, false, List, [], ◌++◌, length, replicate, Some, refl, sym, ap, ◌∙◌}
use Rattle.std.proofs.Common.{subst, inl, inr}
use Rattle.std.specs.Prelude.{Contains}
use Rattle.std.proofs.lemmas.Bool.{cases_lt, true≢false}
use Rattle.std.proofs.lemmas.List.{get_or_past, get_or_append_left, get_or-append_right}
use Rattle.std.proofs.lemmas.Option.{same_Some}
use Rattle.and_model.specs.Terms.{Path, Term, number, Substitution, apply}
use Rattle.and_model.specs.Solutions.{Equation, Solves, Entails}
use Rattle.and_model.specs.Store.{is_half}
use Rattle.and_model.specs.declared.reference.Ref.{Ref}
use Rattle.and_model.specs.declared.reference.Ref.TheVariants.{Free, Cell, Node, Number, Half}
use Rattle.and_program.specs.Skeletons.{node_term}
use Rattle.and_laws.proofs.Equality.{bool_cases}
use Rattle.and_laws.proofs.Ordered.{contains_cases}
use Rattle.and_laws.proofs.Solving.{solves_back, solves_then}
use Rattle.and_laws.proofs.Substitutions.{then, apply_then}
use Rattle.and_cells.specs.Ranges.{NamedProgram}
use Rattle.and_cells.specs.Rows.{IsSound, plain}
use Rattle.and_cells.specs.Seen.{word_at, Keeps}
use Rattle.and_cells.specs.Meaning.{Words, StandsFor, unbound, bound, structure, integer, shallow_cells, equations_between, equations_of}
use Rattle.and_cells.specs.Meaning.{number_in}
use Rattle.and_cells.specs.Numbers.{number_of}
use Rattle.and_cells.specs.Joined.{value}
use Rattle.and_cells.specs.Solved.{AllHaveTerms, IsMostGeneral}
use Rattle.and_cells.proofs.OneTerm.{one_term, apply_agree}
use Rattle.and_cell_laws.proofs.Structures.{in_frame, value_of_node}
use Rattle.and_cell_laws.proofs.Between.{one_value, names_no_half, between_solved, set_names_no_half, set_is_below}
use Rattle.and_cell_laws.proofs.TermsOfRows.{cell_is_below, cell_is_whole, term_of_set, value_of_term, rows_with_terms_are_solutions}
use Rattle.and_cell_laws.proofs.Settling.{settled_rows_have_terms}
use Rattle.and_cell_laws.proofs.Told.{told_rows_are_known}
use Rattle.and_branch_laws.specs.Variables.{EquationsSpeakOf, IsWholeCell}
use Rattle.and_branch_laws.specs.Settling.{widened, Settled}
use Rattle.and_branch_laws.proofs.Speaking.{speaks_solves}

-- ---- Words

-- What solves what each set word states, of those that are no halves.
abbrev pub SolvesWords : NamedProgram → Words → Substitution → Type 0
SolvesWords P w t = (place : ℕ) (r : Ref) → ((w place ≡ r) × (r ≢ Free)) → is_half r ≡ false
    → Solves t (equations_between P w (Cell place) r)

pub words_solved : (P : NamedProgram) (row : List Ref) (t : Substitution) → Solves t (equations_of P row) → SolvesWords P (word_at row) t
words_solved P row t s = let told = told_rows_are_known P row t in told.1 s

pub row_solved : (P : NamedProgram) (row : List Ref) (t : Substitution) → SolvesWords P (word_at row) t → Solves t (equations_of P row)
row_solved P row t s = let told = told_rows_are_known P row t in told.0 s

-- Rows of the same words state the same.
same_words : (P : NamedProgram) (row other : List Ref) → ((place : ℕ) → word_at row place ≡ word_at other place)
    → Entails (equations_of P row) (equations_of P other)
same_words P row other e t s =
    let words : word_at row ≡ word_at other = λ i place. e place i in
    row_solved P other t (subst (λ (w : Words). SolvesWords P w t) words (words_solved P row t s))

pub free_words : (n place : ℕ) → word_at (replicate n Free) place ≡ Free
free_words zero place = refl
free_words (suc n) zero = refl
free_words (suc n) (suc place) = free_words n place

-- The words of a widened row are those of the row.
pub widened_words : (row : List Ref) (by place : ℕ) → word_at (widened row by) place ≡ word_at row place
widened_words row by place = elim (cases_lt place (length row)) [
  | inl below ↦ get_or_append_left row (replicate by Free) Free place below
  | inr past ↦ get_or-append_right row (replicate by Free) (length row) place Free refl past ∙ free_words by (place - length row)
      ∙ sym (get_or_past row place Free past)
]

pub widened_states : (P : NamedProgram) (row : List Ref) (by : ℕ) → Entails (equations_of P (widened row by)) (equations_of P row)
widened_states P row by = same_words P (widened row by) row (widened_words row by)

pub widened_stated : (P : NamedProgram) (row : List Ref) (by : ℕ) → Entails (equations_of P row) (equations_of P (widened row by))
widened_stated P row by = same_words P row (widened row by) (λ place. sym (widened_words row by place))

-- ---- Rows that keep what was set

-- the number that two words hold, as a term
abbrev number_between : Ref → Ref → Term
number_between high low = number (number_of high low)

-- the words of a number that is set are set, and stay
number_stays : (P : NamedProgram) (old new : List Ref) (place pair : ℕ) → IsSound P old → Keeps (plain old) (plain new)
    → word_at old place ≡ Number pair → number_in (word_at new) pair ≡ number_in (word_at old) pair
number_stays P old new place pair sound keeps e =
    let both = sound.written place pair e in
    let one = keeps.knows pair (word_at old pair) (refl, both.0) in
    let other = keeps.knows (suc pair) (word_at old (suc pair)) (refl, both.1) in
    ap (λ (x : Ref). number_between x (word_at new (suc pair))) one.0 ∙ ap (λ (x : Ref). number_between (word_at old pair) x) other.0

-- so what was set has the same value
value_stays : (P : NamedProgram) (old new : List Ref) (place : ℕ) (r : Ref) (t : Substitution) → IsSound P old
    → Keeps (plain old) (plain new) → word_at old place ≡ r
    → value P (word_at new) t r ≡ value P (word_at old) t r
value_stays P old new place Free t sound keeps e = refl
value_stays P old new place (Cell cell) t sound keeps e = refl
value_stays P old new place (Node node base) t sound keeps e = refl
value_stays P old new place (Number pair) t sound keeps e = ap (λ (u : Term). Some (apply t u))
    (number_stays P old new place pair sound keeps e)
value_stays P old new place (Half bits) t sound keeps e = refl

-- a half stays one
no_new_half : (old new : List Ref) (cell : ℕ) → Keeps (plain old) (plain new) → is_half (word_at new cell) ≡ false
    → is_half (word_at old cell) ≡ false
no_new_half old new cell keeps whole = elim (bool_cases (is_half (word_at old cell))) [
  | inr e ↦ e
  | inl e ↦
      let set : word_at old cell ≢ Free = λ free. true≢false (sym e ∙ ap is_half free) in
      let stays = keeps.knows cell (word_at old cell) (refl, set) in
      absurd (true≢false (sym e ∙ ap is_half (sym stays.0) ∙ whole))
]

-- So the row states what it stated before.
pub kept_entails : (P : NamedProgram) (old new : List Ref) → IsSound P old → Keeps (plain old) (plain new)
    → Entails (equations_of P new) (equations_of P old)
kept_entails P old new sound keeps t s =
    row_solved P old t (λ place r set whole.
    let now : Solves t (equations_between P (word_at new) (Cell place) r) =
    words_solved P new t s place r (keeps.knows place r set) whole in
    let agree : value P (word_at new) t (Cell place) ≡ value P (word_at new) t r = one_value P (word_at new) t (Cell place) r now in
    between_solved P (word_at old) t (Cell place) r (t [] place) refl (sym (value_stays P old new place r t sound keeps set.0) ∙ sym agree)
    (λ cell c. no_new_half old new cell keeps (names_no_half P (word_at new) t (Cell place) r now cell c)))

-- ---- Rows that are solutions

-- each cell that stands for a term has it under the substitution
abbrev GivesTerms : NamedProgram → List Ref → Substitution → Substitution → Type 0
GivesTerms P row s t = (cell : ℕ) → cell < length row → is_half (word_at row cell) ≡ false → StandsFor P row (Cell cell) (s [] cell)
    × (t [] cell ≡ apply t (s [] cell))

cell_given : (P : NamedProgram) (row : List Ref) (s t : Substitution) → GivesTerms P row s t → (cell : ℕ) (u : Term)
    → StandsFor P row (Cell cell) u → t [] cell ≡ apply t u
cell_given P row s t gives cell u stands =
    let g = gives cell (cell_is_below P row cell u stands) (cell_is_whole P row cell u stands) in
    g.1 ∙ ap (apply t) (one_term P row (Cell cell) (s [] cell) u g.0 stands)

-- so each reference that stands for a term does
term_given : (P : NamedProgram) (row : List Ref) (s t : Substitution) → GivesTerms P row s t → (r : Ref) (u : Term) → StandsFor P row r u
    → value P (word_at row) t r ≡ Some (apply t u)
term_given P row s t gives r u (unbound cell below free) = refl
term_given P row s t gives r u (bound cell q u' set rest) =
    ap (λ (x : Term). Some x) (cell_given P row s t gives cell u' (bound cell q u' set rest))
term_given P row s t gives r u (structure node base z all) =
    let body : Term = node_term P.skeleton.nodes node.0 in
    let agree : apply (in_frame t base) body ≡ apply (then z t) body =
    apply_agree (in_frame t base) (then z t) body (λ v c. cell_given P row s t gives (base + 1 + v.1) (z v.0 v.1) (all v c)) in
    value_of_node P (word_at row) t node base ∙ ap (λ (x : Term). Some x) (agree ∙ sym (apply_then z t body))
term_given P row s t gives r u (integer pair) = refl

-- A row that is a most general solution of equations is stated by them.
pub general_entails : (P : NamedProgram) (row : List Ref) (es : List Equation) → IsSound P row → AllHaveTerms P row
    → IsMostGeneral P row es → Entails es (equations_of P row)
general_entails P row es sound all g t solves =
    let s : Substitution = g.solution in
    let own : IsMostGeneral P row (equations_of P row) = rows_with_terms_are_solutions P row sound all in
    let gives : GivesTerms P row s t = λ cell below whole. (g.of_cells cell below whole, g.most_general.1 t solves [] cell) in
    row_solved P row t (λ place r set whole.
    let no_half : is_half (word_at row place) ≡ false = ap is_half set.0 ∙ whole in
    let stands : StandsFor P row (Cell place) (s [] place) = g.of_cells place (set_is_below row place r set) no_half in
    let of_word : StandsFor P row r (s [] place) = term_of_set P row place r (s [] place) set stands in
    let named : (cell : ℕ) → Contains (shallow_cells P r) cell
    → is_half (word_at row cell) ≡ false = set_names_no_half P row own.solution place r own.most_general.0 set whole in
    between_solved P (word_at row) t (Cell place) r (apply t (s [] place)) (term_given P row s t gives (Cell place) (s [] place) stands)
    (term_given P row s t gives r (s [] place) of_word)
    (λ cell c. elim (contains_cases place cell (shallow_cells P r) c)
    [ inl e ↦ ap (λ (x : ℕ). is_half (word_at row x)) e ∙ no_half | inr i ↦ named cell i ]))

-- And it states those of them that speak of its cells.
pub general_states : (P : NamedProgram) (row : List Ref) (front es : List Equation) → IsMostGeneral P row (front ++ es)
    → EquationsSpeakOf (IsWholeCell row) es → Entails (equations_of P row) es
general_states P row front es g speaks t solves =
    let s : Substitution = g.solution in
    let after : Solves (then s t) es = solves_then s t es (solves_back s front es g.most_general.0) in
    speaks_solves (IsWholeCell row) (then s t) t es (λ v w.
    let stands : StandsFor P row (Cell v.1) (s [] v.1) = g.of_cells v.1 w.1 w.2 in
    let same : t [] v.1 ≡ apply t (s [] v.1) = same_Some (t [] v.1) (apply t (s [] v.1))
    (value_of_term P row t (Cell v.1) (s [] v.1) solves stands) in
    let e = w.0 in
    subst (λ (q : Path). apply t (s q v.1) ≡ t q v.1) (sym e) (sym same)) speaks after

-- So a row that was settled states what the row before stated, and the equations that were added, and nothing else.
module _ (P : NamedProgram) (old new : List Ref) (es : List Equation) (sound : IsSound P old) (x : Settled P old new es) where
  pub settled_terms : AllHaveTerms P new
  settled_terms = (settled_rows_have_terms P new x.sound).0 x.settled

  pub settled_stated : Entails (equations_of P old ++ es) (equations_of P new)
  settled_stated = general_entails P new (equations_of P old ++ es) x.sound settled_terms x.solved

  pub settled_states_old : Entails (equations_of P new) (equations_of P old)
  settled_states_old = kept_entails P old new sound x.keeps

  pub settled_states_new : EquationsSpeakOf (IsWholeCell new) es → Entails (equations_of P new) es
  settled_states_new speaks = general_states P new (equations_of P old) es x.solved speaks
