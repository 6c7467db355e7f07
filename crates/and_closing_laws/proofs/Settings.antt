-- What is set in a row whose words are in their places says one equation.
use Rattle.std.proofs.Common.{ℕ, ◌≡◌, ◌≢◌, ◌<◌, ◌⊎◌, true, false, Bool, List, [], ◌∷◌, ◌++◌, length, Some, All, Contains}
use Rattle.std.proofs.Common.{refl, ap, sym, ◌∙◌, subst, inl, inr}
use Rattle.std.proofs.lemmas.List.Elements.{All-contains}
use Rattle.and_model.specs.Terms.{Term}
use Rattle.and_model.specs.Solutions.{Equation}
use Rattle.and_model.specs.Store.{Setting, set_in, is_half}
use Rattle.and_model.specs.declared.reference.Ref.{Ref}
use Rattle.and_model.specs.declared.reference.Ref.TheVariants.{Free, Cell, Node, Number, Half}
use Rattle.and_cells.specs.Ranges.{NamedProgram}
use Rattle.and_cells.specs.Seen.{word_at}
use Rattle.and_cells.specs.Meaning.{Words, shallow_term, shallow_cells, cell_variable, equations_between}
use Rattle.and_cells.proofs.SetWords.{set_in_is}
use Rattle.and_cell_laws.proofs.Between.{set_is_below}
use Rattle.and_branch_laws.proofs.PairEquations.{between_terms}
use Rattle.and_store_laws.proofs.Lists.{contains_cases}
use Rattle.and_row_check.specs.Places.{IsWhole, IsWholeFrame, IsVariableCell}
use Rattle.and_worker_laws.specs.Acts
use Rattle.and_worker_laws.specs.Acts.{Act}
use Rattle.and_model.specs.declared.goal.Frame.{Frame}
use Rattle.and_closing_laws.specs.Acting.{IsSetting, nothing}

-- A reference that is set, and is no half, is a term.
is_term : (P : NamedProgram) (w : Words) (r : Ref) → r ≢ Free → is_half r ≡ false → (t : Term) × (shallow_term P w r ≡ Some t)
is_term P w Free set whole = absurd (set refl)
is_term P w (Cell cell) set whole = (_, refl)
is_term P w (Node node base) set whole = (_, refl)
is_term P w (Number pair) set whole = (_, refl)
is_term P w (Half bits) set whole = absurd (cc)

half_or_not : (b : Bool) → (b ≡ true) ⊎ (b ≡ false)
half_or_not true = inl refl
half_or_not false = inr refl

module _ (P : NamedProgram) (frames : List Frame) (row : List Ref) (whole : IsWhole P frames row) where
  -- The cell of a variable is no half.
  pub no_half : (cell : ℕ) → IsVariableCell P.program frames cell → is_half (word_at row cell) ≡ false
  no_half cell v = All-contains (IsWholeFrame P.program row) frames v.frame whole.whole v.one cell v.of_it

  -- What is set, but to no half, names cells of variables alone,
  pub names : (s : Setting) → Contains (set_in row) s → is_half s.value ≡ false → (cell : ℕ)
      → Contains (shallow_cells P (Cell s.place) ++ shallow_cells P s.value) cell → IsVariableCell P.program frames cell
  names s h value cell c =
      let set = set_in_is row s h in
      let low : s.place < length row = set_is_below row s.place s.value set in
      let placed = whole.in_place s.place low (λ e. set.1 (sym set.0 ∙ e)) (ap is_half set.0 ∙ value) in
      elim (contains_cases s.place cell (shallow_cells P s.value) c) [
        | inl is ↦ subst (IsVariableCell P.program frames) (sym is) placed.0
        | inr other ↦ All-contains (IsVariableCell P.program frames) (shallow_cells P s.value) cell
            (subst (λ (r : Ref). All (IsVariableCell P.program frames) (shallow_cells P r)) set.0 placed.1) other
      ]

  -- and says that the cell and the value are one term.
  says : (s : Setting) → Contains (set_in row) s → is_half s.value ≡ false
      → (d : Equation) × (equations_between P (word_at row) (Cell s.place) s.value ≡ d ∷ [])
  says s h value =
      let term = is_term P (word_at row) s.value (set_in_is row s h).1 value in (
        (cell_variable s.place, term.0),
        between_terms P (word_at row) (Cell s.place) s.value (cell_variable s.place) term.0 refl term.1
            (λ cell c. no_half cell (names s h value cell c)),
      )

  -- Each setting has its act.
  pub setting_acts : (n : ℕ) (s : Setting) → Contains (set_in row) s → (a : Act) × IsSetting P (word_at row) n s a
  setting_acts n s h = elim (half_or_not (is_half s.value)) [
    | inl half ↦ (Acts.sets n nothing, inl (half, refl))
    | inr value ↦ (let d = says s h value in (Acts.sets n d.0, inr (value, (d.0, d.1, refl))))
  ]
