-- The equations of a row are those of its set words that are no halves.
use Rattle.std.proofs.Common.{ℕ, zero, suc, ◌+◌, ◌≡◌, ◌≢◌, false, not, List, [], ◌∷◌, get_or, refl, sym, ap, ◌∙◌, subst, arith}
use Rattle.std.specs.Prelude.{◌↔◌, flat_map, filter}
use Rattle.std.proofs.lemmas.Bool.{true≢false}
use Rattle.and_model.specs.Terms.{Substitution}
use Rattle.and_model.specs.Solutions.{Equation, Solves}
use Rattle.and_model.specs.Store.{Setting, set_from, is_half}
use Rattle.and_model.specs.declared.reference.Ref.{Ref}
use Rattle.and_model.specs.declared.reference.Ref.TheVariants.{Free, Cell, Node, Number, Half}
use Rattle.and_cells.specs.Ranges.{NamedProgram}
use Rattle.and_cells.specs.Rows.{plain}
use Rattle.and_cells.specs.Seen.{word_at}
use Rattle.and_cells.specs.Meaning.{equations_of, equations_between}
use Rattle.and_laws.proofs.Solving.{solves_join, solves_front, solves_back}
use Rattle.and_cells.specs.Known.{SolvesKnown}

-- the setting of a place
abbrev setting : ℕ → Ref → Setting
setting place r = record { place = place; value = r }

-- what these equations of settings are for a row whose first word has this place
abbrev equations_from : (Setting → List Equation) → ℕ → List Ref → List Equation
equations_from f base row = flat_map f (filter (λ (s : Setting). not (is_half s.value)) (set_from base row))

-- The equations of each set word that is no half are solved.
abbrev SolvesEach : (Setting → List Equation) → Substitution → ℕ → List Ref → Type 0
SolvesEach f t base row = (place k : ℕ) (r : Ref) → place ≡ base + k → get_or row k Free ≡ r → r ≢ Free → is_half r ≡ false → Solves t (f (setting place r))

-- what solves the equations of a row solves those of its rest,
solves_rest : (f : Setting → List Equation) (t : Substitution) (base : ℕ) (row : List Ref) (r : Ref) → Solves t (equations_from f base (r ∷ row))
    → Solves t (equations_from f (suc base) row)
solves_rest f t base row Free s = s
solves_rest f t base row (Cell cell) s = solves_back t (f (setting base (Cell cell))) (equations_from f (suc base) row) s
solves_rest f t base row (Node node at) s = solves_back t (f (setting base (Node node at))) (equations_from f (suc base) row) s
solves_rest f t base row (Number pair) s = solves_back t (f (setting base (Number pair))) (equations_from f (suc base) row) s
solves_rest f t base row (Half bits) s = s

-- and those of its first word, if that is set and no half;
solves_first : (f : Setting → List Equation) (t : Substitution) (base : ℕ) (row : List Ref) (r : Ref) → r ≢ Free → is_half r ≡ false
    → Solves t (equations_from f base (r ∷ row)) → Solves t (f (setting base r))
solves_first f t base row Free set whole s = absurd (set refl)
solves_first f t base row (Cell cell) set whole s = solves_front t (f (setting base (Cell cell))) (equations_from f (suc base) row) s
solves_first f t base row (Node node at) set whole s = solves_front t (f (setting base (Node node at))) (equations_from f (suc base) row) s
solves_first f t base row (Number pair) set whole s = solves_front t (f (setting base (Number pair))) (equations_from f (suc base) row) s
solves_first f t base row (Half bits) set whole s = absurd (true≢false whole)

-- so it solves those of each such word.
each_solved : (f : Setting → List Equation) (t : Substitution) (base : ℕ) (row : List Ref) → Solves t (equations_from f base row) → SolvesEach f t base row
each_solved f t base [] s place k r at is set whole = absurd (set (sym is))
each_solved f t base (q ∷ row) s place zero r at is set whole =
    let here : base ≡ place = omega arith in
    let first : Solves t (f (setting base r)) = solves_first f t base row r set whole (subst (λ (x : Ref). Solves t (equations_from f base (x ∷ row))) is s) in
    subst (λ (p : ℕ). Solves t (f (setting p r))) here first
each_solved f t base (q ∷ row) s place (suc k) r at is set whole =
    each_solved f t (suc base) row (solves_rest f t base row q s) place k r (omega arith) is set whole

-- What solves the equations of a first word and those of the rest solves those of the row,
solves_more : (f : Setting → List Equation) (t : Substitution) (base : ℕ) (row : List Ref) (r : Ref)
    → (r ≢ Free → is_half r ≡ false → Solves t (f (setting base r)))
    → Solves t (equations_from f (suc base) row) → Solves t (equations_from f base (r ∷ row))
solves_more f t base row Free first rest = rest
solves_more f t base row (Cell cell) first rest =
    solves_join t (f (setting base (Cell cell))) (equations_from f (suc base) row) (first (λ e. absurd (cc)) refl) rest
solves_more f t base row (Node node at) first rest =
    solves_join t (f (setting base (Node node at))) (equations_from f (suc base) row) (first (λ e. absurd (cc)) refl) rest
solves_more f t base row (Number pair) first rest =
    solves_join t (f (setting base (Number pair))) (equations_from f (suc base) row) (first (λ e. absurd (cc)) refl) rest
solves_more f t base row (Half bits) first rest = rest

-- so where those of each word are solved, all are.
all_solved : (f : Setting → List Equation) (t : Substitution) (base : ℕ) (row : List Ref) → SolvesEach f t base row → Solves t (equations_from f base row)
all_solved f t base [] each = tt
all_solved f t base (r ∷ row) each =
    solves_more f t base row r (λ set whole. each base 0 r (omega arith) refl set whole)
    (all_solved f t (suc base) row (λ place k q at is set whole. each place (suc k) q (omega arith) is set whole))

-- the equations that a setting of a row states
abbrev stated : NamedProgram → List Ref → Setting → List Equation
stated P row s = equations_between P (word_at row) (Cell s.place) s.value

-- What is known of plain cells is what their row says.
pub told_rows_are_known : (P : NamedProgram) (row : List Ref) (t : Substitution) → SolvesKnown P (word_at row) (plain row) t ↔ Solves t (equations_of P row)
told_rows_are_known P row t = (
  λ known. all_solved (stated P row) t 0 row (λ place k r at is set whole.
      let here : k ≡ place = omega arith in
      let word : word_at row place ≡ r = ap (word_at row) (sym here) ∙ is in
      known place r (word, set) whole),
  λ s place r set whole. each_solved (stated P row) t 0 row s place place r (omega arith) set.0 set.1 whole,
)
