-- Of which cells the equations between references speak.
use Rattle.std.proofs.Common.{ℕ, ◌+◌, ◌≡◌, Bool, true, false, not, List, [], ◌∷◌, ◌++◌, map, filter, flat_map, Option, Some, None, refl, sym, subst, Contains}
use Rattle.std.proofs.lemmas.Option.{none-some, same_Some}
use Rattle.std.proofs.lemmas.Bool.{true≢false}
use Rattle.std.proofs.lemmas.List.Elements.{Contains-append_left, Contains-append_right, All-contains, filter_passes}
use Rattle.and_model.specs.Terms.{Path, Term, variables_of, apply}
use Rattle.and_model.specs.Solutions.{Equation, falsehood}
use Rattle.and_model.specs.Store.{Setting, set_in, is_half}
use Rattle.and_model.specs.declared.reference.Ref.{Ref}
use Rattle.and_model.specs.declared.reference.Ref.TheVariants.{Free, Cell, Node, Number, Half}
use Rattle.and_program.specs.Skeletons.{node_term}
use Rattle.and_cells.specs.Ranges.{NamedProgram}
use Rattle.and_cells.specs.Seen.{word_at}
use Rattle.and_cells.specs.Meaning.{Words, cell_variable, shallow_term, shallow_cells, same_terms, equations_between, equations_of}
use Rattle.and_cell_laws.proofs.Images.{contains_image}
use Rattle.and_branch_laws.specs.Variables.{SpeaksOf, EquationsSpeakOf}
use Rattle.and_branch_laws.proofs.Lists.{filter_contains}
use Rattle.and_branch_laws.proofs.Speaking.{speaks_variable, speaks_applied, equations_speak_join}
use Rattle.and_worker_laws.specs.PhaseCells.{IsCell}
use Rattle.and_store_laws.proofs.Lists.{contains_first, contains_more, contains_none}

module _ (V : Path × ℕ → Type 0) (P : NamedProgram) (w : Words) where
  term_speaks : (r : Ref) (u : Term) → shallow_term P w r ≡ Some u → ((cell : ℕ) → Contains (shallow_cells P r) cell → V ([], cell)) → SpeaksOf V u
  term_speaks Free u is all = absurd (none-some u is)
  term_speaks (Cell cell) u is all =
      subst (SpeaksOf V) (same_Some (cell_variable cell) u is) (speaks_variable V [] cell (all cell (contains_first cell [])))
  term_speaks (Node node base) u is all =
      let t : Term = node_term P.skeleton.nodes node.0 in
      subst (SpeaksOf V) (same_Some (apply (λ q k. cell_variable (base + 1 + k)) t) u is)
      (speaks_applied (λ v. Contains (variables_of t) v) V (λ q k. cell_variable (base + 1 + k)) t
      (λ v c. speaks_variable V [] (base + 1 + v.1) (all (base + 1 + v.1) (contains_image (λ (v : Path × ℕ). base + 1 + v.1) (variables_of t) v c)))
      (λ v c. c))
  term_speaks (Number pair) u is all = subst (SpeaksOf V) (same_Some _ u is) (λ v c. absurd (contains_none v c))
  term_speaks (Half bits) u is all = absurd (none-some u is)

  same_speaks : (a b : Option Term) → ((u : Term) → a ≡ Some u → SpeaksOf V u) → ((u : Term) → b ≡ Some u → SpeaksOf V u)
      → EquationsSpeakOf V (same_terms a b)
  same_speaks None b one other = ((λ v c. absurd (contains_none v c)), (λ v c. absurd (contains_none v c)), tt)
  same_speaks (Some t) None one other = ((λ v c. absurd (contains_none v c)), (λ v c. absurd (contains_none v c)), tt)
  same_speaks (Some t) (Some u) one other = (one t refl, other u refl, tt)

  falsehoods_speak : (cells : List ℕ) → EquationsSpeakOf V (map (λ (cell : ℕ). falsehood) cells)
  falsehoods_speak [] = tt
  falsehoods_speak (cell ∷ cells) = ((λ v c. absurd (contains_none v c)), (λ v c. absurd (contains_none v c)), falsehoods_speak cells)

  -- They speak of the cells that the references name.
  pub between_speaks : (l r : Ref) → ((cell : ℕ) → Contains (shallow_cells P l ++ shallow_cells P r) cell → V ([], cell))
      → EquationsSpeakOf V (equations_between P w l r)
  between_speaks l r all =
      equations_speak_join V (same_terms (shallow_term P w l) (shallow_term P w r))
      (map (λ (cell : ℕ). falsehood) (filter (λ (cell : ℕ). is_half (w cell)) (shallow_cells P l ++ shallow_cells P r)))
      (same_speaks (shallow_term P w l) (shallow_term P w r)
      (λ u is. term_speaks l u is (λ cell c. all cell (Contains-append_left (shallow_cells P l) (shallow_cells P r) cell c)))
      (λ u is. term_speaks r u is (λ cell c. all cell (Contains-append_right (shallow_cells P l) (shallow_cells P r) cell c))))
      (falsehoods_speak (filter (λ (cell : ℕ). is_half (w cell)) (shallow_cells P l ++ shallow_cells P r)))

pub flat_speaks : (V : Path × ℕ → Type 0) {X : Type 0} (f : X → List Equation) (xs : List X) → ((x : X) → Contains xs x → EquationsSpeakOf V (f x))
    → EquationsSpeakOf V (flat_map f xs)
flat_speaks V f [] all = tt
flat_speaks V f (x ∷ xs) all =
    equations_speak_join V (f x) (flat_map f xs) (all x (contains_first x xs)) (flat_speaks V f xs (λ y c. all y (contains_more x y xs c)))

no_half : (b : Bool) → not b ≡ true → b ≡ false
no_half false is = refl
no_half true is = absurd (true≢false (sym is))

-- A row speaks of the cells that its settings name,
pub row_speaks : (V : Path × ℕ → Type 0) (P : NamedProgram) (row : List Ref)
    → ((s : Setting) → Contains (set_in row) s → is_half s.value ≡ false → (cell : ℕ)
    → Contains (shallow_cells P (Cell s.place) ++ shallow_cells P s.value) cell → V ([], cell))
    → EquationsSpeakOf V (equations_of P row)
row_speaks V P row all =
    let some : Setting → Bool = λ (s : Setting). not (is_half s.value) in
    flat_speaks V (λ (s : Setting). equations_between P (word_at row) (Cell s.place) s.value) (filter some (set_in row))
    (λ s c. between_speaks V P (word_at row) (Cell s.place) s.value (all s (filter_contains some (set_in row) s c)
    (no_half (is_half s.value) (All-contains (λ (s : Setting). some s ≡ true) (filter some (set_in row)) s (filter_passes some (set_in row)) c))))

-- which are cells.
pub row_speaks_of_cells : (P : NamedProgram) (row : List Ref) → EquationsSpeakOf IsCell (equations_of P row)
row_speaks_of_cells P row = row_speaks IsCell P row (λ s c whole cell d. refl)
