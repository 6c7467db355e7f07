-- What a reference of each kind stands for.
use Rattle.std.proofs.Common.{ℕ, ◌≡◌, ◌≢◌, ◌<◌, ◌+◌, List, [], length, refl, sym, ◌∙◌, subst, inl, inr}
use Rattle.std.proofs.lemmas.Bool.{cases_lt}
use Rattle.std.proofs.lemmas.List.{get_or_past}
use Rattle.and_model.specs.Terms.{Term, Substitution}
use Rattle.and_model.specs.declared.reference.Ref.{Ref}
use Rattle.and_model.specs.declared.reference.Ref.TheVariants.{Free, Cell, Node, Number, Half}
use Rattle.and_cells.specs.Ranges.{NamedProgram, IsInRange, IsInRangeOrHalf}
use Rattle.and_cells.specs.Seen.{word_at}
use Rattle.and_cells.specs.Meaning.{StandsFor, unbound, bound, integer, cell_variable, number_in}
use Rattle.and_print.specs.Given.{GivesQuery}
use Rattle.and_print.specs.Roots.{Means}

-- a set cell stands for what its word stands for
pub stands_onward : (P : NamedProgram) (row : List Ref) (cell : ℕ) (t : Term) → word_at row cell ≢ Free → StandsFor P row (Cell cell) t
    → StandsFor P row (word_at row cell) t
stands_onward P row cell t set (unbound c below free) = absurd (set free)
stands_onward P row cell t set (bound c r u is rest) = subst (λ q. StandsFor P row q u) (sym is.0) rest

-- a free one for its variable
pub stands_free : (P : NamedProgram) (row : List Ref) (cell : ℕ) (t : Term) → word_at row cell ≡ Free → StandsFor P row (Cell cell) t → t ≡ cell_variable cell
stands_free P row cell t free (unbound c below is_free) = refl
stands_free P row cell t free (bound c r u is rest) = absurd (is.1 (sym is.0 ∙ free))

pub stands_number : (P : NamedProgram) (row : List Ref) (pair : ℕ) (t : Term) → StandsFor P row (Number pair) t → t ≡ number_in (word_at row) pair
stands_number P row pair t (integer p) = refl

-- a half and a free word stand for nothing
pub stands_half : (P : NamedProgram) (row : List Ref) (bits : ℕ) (t : Term) → StandsFor P row (Half bits) t → ⊥
stands_half P row bits t h = elim h [ ]

pub stands_nothing : (P : NamedProgram) (row : List Ref) (t : Term) → StandsFor P row Free t → ⊥
stands_nothing P row t h = elim h [ ]

below_if_set : (row : List Ref) (cell : ℕ) → word_at row cell ≢ Free → cell < length row
below_if_set row cell set = elim (cases_lt cell (length row)) [ inl lt ↦ lt | inr le ↦ absurd (set (get_or_past row cell Free le)) ]

-- a cell that stands for something is one of the row
pub stands_in_row : (P : NamedProgram) (row : List Ref) (cell : ℕ) (t : Term) → StandsFor P row (Cell cell) t → cell < length row
stands_in_row P row cell t (unbound c below free) = below
stands_in_row P row cell t (bound c r u is rest) = below_if_set row cell (λ e. is.1 (sym is.0 ∙ e))

-- where a reference leads to, under a program that is another's name
pub led_to : (N P : NamedProgram) (row : List Ref) (r q : Ref) (t : Term) → N ≡ P → ((u : Term) → StandsFor N row r u → StandsFor N row q u)
    → StandsFor P row r t → StandsFor P row q t
led_to N P row r q t e leads s = subst (λ Q. StandsFor Q row q t) e (leads t (subst (λ Q. StandsFor Q row r t) (sym e) s))

pub means_end : (N P : NamedProgram) (row : List Ref) (r q : Ref) (t : Term) → N ≡ P → ((u : Term) → StandsFor N row r u → StandsFor N row q u)
    → IsInRangeOrHalf N (length row) q → Means P row r t → Means P row q t
means_end N P row r Free t e leads fits m = absurd (stands_nothing P row t (led_to N P row r Free t e leads m.stands))
means_end N P row r (Cell cell) t e leads fits m = record { in_range = fits; stands = led_to N P row r (Cell cell) t e leads m.stands }
means_end N P row r (Node node base) t e leads fits m =
    record { in_range = subst (λ Q. IsInRange Q (length row) (Node node base)) e fits; stands = led_to N P row r (Node node base) t e leads m.stands }
means_end N P row r (Number pair) t e leads fits m = record { in_range = fits; stands = led_to N P row r (Number pair) t e leads m.stands }
means_end N P row r (Half bits) t e leads fits m = absurd (stands_half P row bits t (led_to N P row r (Half bits) t e leads m.stands))

pub means_under : (N P : NamedProgram) (row : List Ref) (r : Ref) (t : Term) → N ≡ P → IsInRange N (length row) r → StandsFor N row r t → Means P row r t
means_under N P row r t e fits s = record { in_range = subst (λ Q. IsInRange Q (length row) r) e fits; stands = subst (λ Q. StandsFor Q row r t) e s }

-- a variable of the query
pub query_cell : (P : NamedProgram) (row : List Ref) (s : Substitution) (k n : ℕ) → GivesQuery P row s → k < P.program.query.variables → n ≡ k
    → Means P row (Cell (1 + n)) (s [] k)
query_cell P row s k n gives lt e =
    let here : StandsFor P row (Cell (1 + k)) (s [] k) = gives k lt in
    let P' : ℕ → Type 0 = λ m. Means P row (Cell (1 + m)) (s [] k) in
    subst P' (sym e) (record { in_range = stands_in_row P row (1 + k) (s [] k) here; stands = here })
