-- What is held stays held in rows that grow.
use Rattle.std.proofs.Common.{ℕ, ◌+◌, ◌≡◌, true, List, [], refl, sym, subst, inl, inr, arith}
use Rattle.std.specs.Prelude.{Contains}
use Rattle.std.proofs.lemmas.List.Elements.{Contains-append_left, Contains-append_right, Contains-append_cases}
use Rattle.and_model.specs.Terms.{Path, Term, Terms, variable, number, compound, none, more, variables_of, variables_in, is_ground}
use Rattle.and_model.specs.Terms.{Substitution, apply, apply_all}
use Rattle.and_model.specs.declared.numbers.NodeNo.{NodeNo}
use Rattle.and_model.specs.declared.reference.Ref.{Ref}
use Rattle.and_model.specs.declared.reference.Ref.TheVariants.{Free, Cell, Node}
use Rattle.and_program.specs.Skeletons.{node_term}
use Rattle.and_laws.proofs.Ordered.{contains_cases, contains_none}
use Rattle.and_cells.specs.Ranges.{NamedProgram}
use Rattle.and_cells.specs.Seen.{word_at, Grows}
use Rattle.and_cells.specs.Meaning
use Rattle.and_cells.specs.Meaning.{StandsFor, Holds, cell_variable}
use Rattle.and_cells.proofs.OneTerm.{one_term}
use Rattle.and_cell_laws.proofs.TermsOfRows.{term_of_set, cell_is_below}
use Rattle.and_branch_laws.specs.Running.{IsRead}
use Rattle.and_branch_laws.proofs.Speaking.{variables_applied}
use Rattle.and_branch_laws.proofs.Valuing.{has_no_variable}

-- What is put for a variable of a term has its variables in what becomes of the term.
mutual
  pub image_has : (s : Substitution) (t : Term) (v w : Path × ℕ) → Contains (variables_of t) v → Contains (variables_of (s v.0 v.1)) w
      → Contains (variables_of (apply s t)) w
  image_has s (variable q k) v w c i = elim (contains_cases (q, k) v [] c) [
    | inl e ↦ subst (λ (x : Path × ℕ). Contains (variables_of (s x.0 x.1)) w) e i
    | inr none_left ↦ absurd (contains_none v none_left)
  ]
  image_has s (number z) v w c i = absurd (contains_none v c)
  image_has s (compound n ts) v w c i = images_have s ts v w c i

  images_have : (s : Substitution) (ts : Terms) (v w : Path × ℕ) → Contains (variables_in ts) v → Contains (variables_of (s v.0 v.1)) w
      → Contains (variables_in (apply_all s ts)) w
  images_have s none v w c i = absurd (contains_none v c)
  images_have s (more t ts) v w c i = elim (Contains-append_cases (variables_of t) (variables_in ts) v c) [
    | inl here ↦ Contains-append_left (variables_of (apply s t)) (variables_in (apply_all s ts)) w (image_has s t v w here i)
    | inr later ↦ Contains-append_right (variables_of (apply s t)) (variables_in (apply_all s ts)) w (images_have s ts v w later i)
  ]

module _ (P : NamedProgram) (row : List Ref) where
  -- What a structure stands for is its own term, with what its variables' cells stand for.
  structure_read : (node : NodeNo) (base : ℕ) (r : Ref) (t : Term) → r ≡ Node node base → StandsFor P row r t
      → IsRead P row base (node_term P.skeleton.nodes node.0) t
  structure_read node base r t e (Meaning.unbound cell below free) = absurd (cc)
  structure_read node base r t e (Meaning.bound cell q u set rest) = absurd (cc)
  structure_read node base r t e (Meaning.structure other frame s all) =
      let same_node : other ≡ node = cc in
      let same_base : frame ≡ base = cc in
      subst (λ (n : NodeNo). IsRead P row base (node_term P.skeleton.nodes n.0) (apply s (node_term P.skeleton.nodes other.0))) same_node
      (record {
        values = s;
        cells = λ v c. subst (λ (b : ℕ). StandsFor P row (Cell (b + 1 + v.1)) (s v.0 v.1)) same_base (all v c);
        reads = refl;
      })
  structure_read node base r t e (Meaning.integer pair) = absurd (cc)

  -- A free cell that is held is a variable of the term,
  pub held_is_variable : (r : Ref) (cell : ℕ) → Holds P row r cell → word_at row cell ≡ Free → (t : Term) → StandsFor P row r t
      → Contains (variables_of t) ([], cell)
  held_is_variable r cell (Meaning.here c) free t stands =
      let own : StandsFor P row (Cell c) (cell_variable c) = Meaning.unbound c (cell_is_below P row c t stands) free in
      subst (λ (u : Term). Contains (variables_of u) ([], c)) (one_term P row (Cell c) (cell_variable c) t own stands) (0, omega arith, refl)
  held_is_variable r cell (Meaning.onward start q c set rest) free t stands =
      held_is_variable q c rest free t (term_of_set P row start q t set stands)
  held_is_variable r cell (Meaning.inside node base v c at rest) free t stands =
      let read = structure_read node base (Node node base) t refl stands in
      subst (λ (u : Term). Contains (variables_of u) ([], c)) (sym read.reads)
      (image_has read.values (node_term P.skeleton.nodes node.0) v ([], c) at
      (held_is_variable (Cell (base + 1 + v.1)) c rest free (read.values v.0 v.1) (read.cells v at)))

  -- and the other way round.
  pub variable_is_held : (r : Ref) (t : Term) → StandsFor P row r t → (v : Path × ℕ) → Contains (variables_of t) v → Holds P row r v.1
  variable_is_held r t (Meaning.unbound cell below free) v c = elim (contains_cases ([], cell) v [] c) [
    | inl e ↦ subst (λ (x : Path × ℕ). Holds P row (Cell cell) x.1) (sym e) (Meaning.here cell)
    | inr none_left ↦ absurd (contains_none v none_left)
  ]
  variable_is_held r t (Meaning.bound cell q u set rest) v c = Meaning.onward cell q v.1 set (variable_is_held q u rest v c)
  variable_is_held r t (Meaning.structure node base s all) v c =
      let found = variables_applied s (node_term P.skeleton.nodes node.0) v c in
      Meaning.inside node base found.0 v.1 found.1
      (variable_is_held (Cell (base + 1 + found.0.1)) (s found.0.0 found.0.1) (all found.0 found.1) v found.2)
  variable_is_held r t (Meaning.integer pair) v c = absurd (contains_none v c)

module _ (P : NamedProgram) (row later : List Ref) (grows : Grows row later) where
  -- What is held is held later.
  pub held_later : (r : Ref) (cell : ℕ) → Holds P row r cell → Holds P later r cell
  held_later r cell (Meaning.here c) = Meaning.here c
  held_later r cell (Meaning.onward start q c set rest) = Meaning.onward start q c (grows.set start q set) (held_later q c rest)
  held_later r cell (Meaning.inside node base v c at rest) = Meaning.inside node base v c at (held_later (Cell (base + 1 + v.1)) c rest)

  -- So a term with a variable whose cell is free later does not read as a ground one then.
  pub read_later : (base cell : ℕ) (t u : Term) → IsRead P row base t u → Contains (variables_of u) ([], cell) → word_at later cell ≡ Free
      → (w : Term) → IsRead P later base t w → is_ground w ≡ true → ⊥
  read_later base cell t u read at free w other ground =
      let at_variable = subst (λ (x : Term). Contains (variables_of x) ([], cell)) read.reads at in
      let found = variables_applied read.values t ([], cell) at_variable in
      let v = found.0 in
      let held : Holds P row (Cell (base + 1 + v.1)) cell =
      variable_is_held P row (Cell (base + 1 + v.1)) (read.values v.0 v.1) (read.cells v found.1) ([], cell) found.2 in
      let one : Contains (variables_of (other.values v.0 v.1)) ([], cell) =
      held_is_variable P later (Cell (base + 1 + v.1)) cell (held_later (Cell (base + 1 + v.1)) cell held) free
      (other.values v.0 v.1) (other.cells v found.1) in
      let all : Contains (variables_of w) ([], cell) =
      subst (λ (x : Term). Contains (variables_of x) ([], cell)) (sym other.reads) (image_has other.values t v ([], cell) found.1 one) in
      has_no_variable w ground ([], cell) all
