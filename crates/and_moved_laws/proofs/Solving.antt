-- What solves the equations of a whole row solves those of its part, with the cells named anew.
use Rattle.std.proofs.Common.{ℕ, ◌+◌, ◌≡◌, List, [], ◌∷◌, ◌++◌, Some, refl, sym, ap, ◌∙◌, subst, inl, inr, Contains}
use Rattle.std.proofs.lemmas.List.Elements.{Contains-append_right}
use Rattle.and_model.specs.Terms.{Path, Term, Substitution, apply, variables_of}
use Rattle.and_model.specs.Solutions.{Equation, Solves, Solvable}
use Rattle.and_model.specs.Store.{is_half}
use Rattle.and_model.specs.declared.reference.Ref.{Ref}
use Rattle.and_model.specs.declared.reference.Ref.TheVariants.{Free, Cell, Node, Number, Half}
use Rattle.and_program.specs.Skeletons.{node_term}
use Rattle.and_laws.specs.Naming.{under}
use Rattle.and_laws.proofs.Ordered.{contains_first, contains_cases, contains_none}
use Rattle.and_laws.proofs.Solving.{solves_join, solves_front, solves_back}
use Rattle.and_laws.proofs.Substitutions.{then}
use Rattle.and_cells.specs.Ranges.{NamedProgram}
use Rattle.and_cells.specs.Seen.{word_at}
use Rattle.and_cells.specs.Meaning.{shallow_cells, equations_between, equations_of}
use Rattle.and_cells.specs.Joined.{value}
use Rattle.and_cells.proofs.OneTerm.{apply_agree}
use Rattle.and_cell_laws.proofs.Images.{contains_image, contains_origin}
use Rattle.and_cell_laws.proofs.Structures.{in_frame, value_of_node}
use Rattle.and_cell_laws.proofs.Between.{one_value, names_no_half, between_solved}
use Rattle.and_branch_laws.proofs.Rows.{words_solved, row_solved}
use Rattle.and_branch_laws.proofs.Speaking.{under_then}
use Rattle.and_moved_laws.specs.Parts.{moved, moving, IsTogether, IsPartOf}
use Rattle.and_moved_laws.proofs.Moving.{moved_free, moved_half, same_half}
use Rattle.and_moved_laws.proofs.Standing.{same_number}

module _ (P : NamedProgram) (at : ℕ → ℕ) where
  -- ---- The cells that a moved reference names

  -- Each is one that the reference names, moved,
  cells_from : (r : Ref) → IsTogether P at r → (cell : ℕ) → Contains (shallow_cells P (moved at r)) cell
      → (c : ℕ) × Contains (shallow_cells P r) c × (cell ≡ at c)
  cells_from Free h cell c = absurd (contains_none cell c)
  cells_from (Cell d) h cell c = elim (contains_cases (at d) cell [] c) [
    | inl e ↦ (d, contains_first d [], e)
    | inr i ↦ absurd (contains_none cell i)
  ]
  cells_from (Node node base) h cell c =
      let vs : List (Path × ℕ) = variables_of (node_term P.skeleton.nodes node.0) in
      let (v, i, is) = contains_origin (λ (v : Path × ℕ). at base + 1 + v.1) vs cell c in
      (base + 1 + v.1, contains_image (λ (v : Path × ℕ). base + 1 + v.1) vs v i, is ∙ sym (h v i))
  cells_from (Number pair) h cell c = absurd (contains_none cell c)
  cells_from (Half bits) h cell c = absurd (contains_none cell c)

  -- and the other way round.
  cells_to : (r : Ref) → IsTogether P at r → (cell : ℕ) → Contains (shallow_cells P r) cell
      → Contains (shallow_cells P (moved at r)) (at cell)
  cells_to Free h cell c = absurd (contains_none cell c)
  cells_to (Cell d) h cell c = elim (contains_cases d cell [] c) [
    | inl e ↦ subst (λ (x : ℕ). Contains (at d ∷ []) (at x)) (sym e) (contains_first (at d) [])
    | inr i ↦ absurd (contains_none cell i)
  ]
  cells_to (Node node base) h cell c =
      let vs : List (Path × ℕ) = variables_of (node_term P.skeleton.nodes node.0) in
      let (v, i, is) = contains_origin (λ (v : Path × ℕ). base + 1 + v.1) vs cell c in
      let there : at base + 1 + v.1 ≡ at cell = sym (h v i) ∙ ap at (sym is) in
      subst (λ (x : ℕ). Contains (shallow_cells P (Node node (at base))) x) there
      (contains_image (λ (v : Path × ℕ). at base + 1 + v.1) vs v i)
  cells_to (Number pair) h cell c = absurd (contains_none cell c)
  cells_to (Half bits) h cell c = absurd (contains_none cell c)

  module _ (part whole : List Ref) (m : IsPartOf P at part whole) (t : Substitution) where
    -- what the part's variables are where t gives those of the whole row
    abbrev here : Substitution
    here = then (moving at) t

    -- ---- Values

    value_moved : (r : Ref) → IsTogether P at r → value P (word_at whole) t (moved at r) ≡ value P (word_at part) here r
    value_moved Free h = refl
    value_moved (Cell cell) h = refl
    value_moved (Node node base) h =
        let body : Term = node_term P.skeleton.nodes node.0 in
        value_of_node P (word_at whole) t node (at base)
        ∙ ap (λ (u : Term). Some u) (apply_agree (in_frame t (at base)) (in_frame here base) body (λ v c. ap (t []) (sym (h v c))))
        ∙ sym (value_of_node P (word_at part) here node base)
    value_moved (Number pair) h = ap (λ (u : Term). Some (apply t u)) (same_number P at part whole m pair h)
    value_moved (Half bits) h = refl

    -- The equation of a cell with a reference is solved here where it is solved there,
    pub between_here : (cell : ℕ) (r : Ref) → IsTogether P at r → Solves t (equations_between P (word_at whole) (Cell (at cell)) (moved at r))
        → Solves here (equations_between P (word_at part) (Cell cell) r)
    between_here cell r h s =
        between_solved P (word_at part) here (Cell cell) r (here [] cell) refl
        (sym (value_moved r h) ∙ sym (one_value P (word_at whole) t (Cell (at cell)) (moved at r) s))
        (λ c i. sym (same_half P at part whole m c) ∙ names_no_half P (word_at whole) t (Cell (at cell)) (moved at r) s (at c)
        (elim (contains_cases cell c (shallow_cells P r) i) [
          | inl e ↦ subst (λ (x : ℕ). Contains (at cell ∷ shallow_cells P (moved at r)) (at x)) (sym e)
              (contains_first (at cell) (shallow_cells P (moved at r)))
          | inr j ↦ Contains-append_right (at cell ∷ []) (shallow_cells P (moved at r)) (at c) (cells_to r h c j)
        ]))

    -- and there where it is solved here.
    pub between_there : (cell : ℕ) (r : Ref) → IsTogether P at r → Solves here (equations_between P (word_at part) (Cell cell) r)
        → Solves t (equations_between P (word_at whole) (Cell (at cell)) (moved at r))
    between_there cell r h s =
        between_solved P (word_at whole) t (Cell (at cell)) (moved at r) (t [] (at cell)) refl
        (value_moved r h ∙ sym (one_value P (word_at part) here (Cell cell) r s))
        (λ c i. elim (contains_cases (at cell) c (shallow_cells P (moved at r)) i) [
          | inl e ↦ ap (λ (x : ℕ). is_half (word_at whole x)) e ∙ same_half P at part whole m cell
              ∙ names_no_half P (word_at part) here (Cell cell) r s cell (contains_first cell (shallow_cells P r))
          | inr j ↦
              let (d, there, is) = cells_from r h c j in
              ap (λ (x : ℕ). is_half (word_at whole x)) is ∙ same_half P at part whole m d
              ∙ names_no_half P (word_at part) here (Cell cell) r s d (Contains-append_right (cell ∷ []) (shallow_cells P r) d there)
        ])

    -- ---- Rows

    pub solves_part : Solves t (equations_of P whole) → Solves here (equations_of P part)
    solves_part s = row_solved P part here (λ place r set no_half.
        between_here place r (subst (λ (x : Ref). IsTogether P at x) set.0 (m.together place))
        (words_solved P whole t s (at place) (moved at r)
        (m.words place ∙ ap (moved at) set.0, λ e. set.1 (moved_free at r e)) (moved_half at r ∙ no_half)))

    -- The same with equations more.
    pub solves_part_with : (es : List Equation) → Solves t (equations_of P whole ++ under (moving at) es)
        → Solves here (equations_of P part ++ es)
    solves_part_with es s = solves_join here (equations_of P part) es
        (solves_part (solves_front t (equations_of P whole) (under (moving at) es) s))
        (under_then (moving at) t es (solves_back t (equations_of P whole) (under (moving at) es) s))

-- So where the part has no solution with these equations, the whole row has none.
pub unsolved_there : (P : NamedProgram) (at : ℕ → ℕ) (part whole : List Ref) (es : List Equation) → IsPartOf P at part whole
    → (Solvable (equations_of P part ++ es) → ⊥) → Solvable (equations_of P whole ++ under (moving at) es) → ⊥
unsolved_there P at part whole es m no_solution so =
    no_solution (then (moving at) so.0, solves_part_with P at part whole m so.0 es so.1)
