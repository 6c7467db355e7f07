-- What solves the equations of a part is what some solution of the whole row's makes of the part's cells.
use Rattle.std.proofs.Common.{ℕ, ◌≡◌, ◌<◌, false, List, [], ◌∷◌, ◌++◌, length, refl, sym, ap, ◌∙◌, subst, inl, inr}
use Rattle.std.proofs.lemmas.Option.{same_Some}
use Rattle.and_model.specs.Terms.{Path, Term, Substitution, apply}
use Rattle.and_model.specs.Solutions.{Equation, Solves, Solvable}
use Rattle.and_model.specs.Store.{is_half}
use Rattle.and_model.specs.declared.reference.Ref.{Ref}
use Rattle.and_model.specs.declared.reference.Ref.TheVariants.{Cell}
use Rattle.and_laws.specs.Naming.{under}
use Rattle.and_laws.proofs.Solving.{solves_join, solves_front, solves_back, solves_then}
use Rattle.and_laws.proofs.Substitutions.{then, apply_then}
use Rattle.and_cells.specs.Ranges.{NamedProgram}
use Rattle.and_cells.specs.Rows.{IsSound}
use Rattle.and_cells.specs.Seen.{word_at}
use Rattle.and_cells.specs.Meaning.{StandsFor, IsSettled, equations_of, cell_variable}
use Rattle.and_cells.specs.Solved.{IsMostGeneral}
use Rattle.and_cell_laws.proofs.Settling.{settled_rows_have_terms}
use Rattle.and_cell_laws.proofs.TermsOfRows.{value_of_term, rows_with_terms_are_solutions}
use Rattle.and_branch_laws.specs.Variables.{EquationsSpeakOf, IsWholeCell}
use Rattle.and_branch_laws.proofs.Speaking.{speaks_solves, then_under}
use Rattle.and_branch_laws.proofs.Widening.{solved_alike}
use Rattle.and_moved_laws.specs.Parts.{moving, IsPartOf}
use Rattle.and_moved_laws.proofs.Moving.{one_origin, within_whole, same_half}
use Rattle.and_moved_laws.proofs.Standing.{stands_back}
use Rattle.and_moved_laws.proofs.Filling.{Origin, origin}

-- ---- From the part's cells to the whole row's

abbrev drawn_from : (at : ℕ → ℕ) (s : Substitution) (p : ℕ) → Origin at p → Term
drawn_from at s p (inl found) = s [] found.0
drawn_from at s p (inr nowhere) = cell_variable p

-- each cell of the whole row that is one of the part's has what that has, and other frames have what they had
abbrev pub drawn : (at : ℕ → ℕ) → ((p q : ℕ) → p < q → at p < at q) → Substitution → Substitution
drawn at rises s [] p = drawn_from at s p (origin at rises p)
drawn at rises s (n ∷ q) k = s (n ∷ q) k

module _ (at : ℕ → ℕ) (rises : (p q : ℕ) → p < q → at p < at q) (s : Substitution) where
  drawn_cell : (c : ℕ) (o : Origin at (at c)) → drawn_from at s (at c) o ≡ s [] c
  drawn_cell c (inl found) = ap (s []) (one_origin at rises found.0 c found.1)
  drawn_cell c (inr nowhere) = absurd (nowhere c refl)

  drawn_same : (q : Path) (k : ℕ) → then (moving at) (drawn at rises s) q k ≡ s q k
  drawn_same [] k = drawn_cell k (origin at rises (at k))
  drawn_same (n ∷ q) k = refl

  -- So the part's cells have what they had.
  pub drawn_back : then (moving at) (drawn at rises s) ≡ s
  drawn_back = λ i q k. drawn_same q k i

module _ (P : NamedProgram) (at : ℕ → ℕ) (part whole : List Ref) (m : IsPartOf P at part whole) (sound : IsSound P whole)
    (settled : IsSettled P whole) where
  -- The row is a most general solution of its own equations.
  pub general : IsMostGeneral P whole (equations_of P whole)
  general = rows_with_terms_are_solutions P whole sound ((settled_rows_have_terms P whole sound).0 settled)

  -- ---- From some cells of the whole row to all

  -- each cell has the term that it stands for, of cells as they were
  abbrev pub extended : Substitution → Substitution
  extended s [] p = let g = general in apply s (g.solution [] p)
  extended s (n ∷ q) k = s (n ∷ q) k

  -- This solves the row's equations,
  pub extended_solves : (s : Substitution) → Solves (extended s) (equations_of P whole)
  extended_solves s =
      let g = general in
      solved_alike P whole (then g.solution s) (extended s) sound (λ cell low. refl)
      (solves_then g.solution s (equations_of P whole) g.most_general.0)

  -- and where the part's are solved, it leaves the part's cells.
  pub extended_stays : (s : Substitution) → Solves (then (moving at) s) (equations_of P part) → (c : ℕ) → c < length part
      → is_half (word_at part c) ≡ false → extended s [] (at c) ≡ s [] (at c)
  extended_stays s solves c low no_half =
      let g = general in
      let stands : StandsFor P whole (Cell (at c)) (g.solution [] (at c)) =
      g.of_cells (at c) (within_whole P at part whole m c low) (same_half P at part whole m c ∙ no_half) in
      let (u, here, is) = stands_back P at part whole m (Cell c) (g.solution [] (at c)) tt stands in
      let of_part : s [] (at c) ≡ apply (then (moving at) s) u =
      same_Some (s [] (at c)) (apply (then (moving at) s) u) (value_of_term P part (then (moving at) s) (Cell c) u solves here) in
      ap (apply s) is ∙ apply_then (moving at) s u ∙ sym of_part

  -- ---- Solutions

  -- What solves the part's equations: a solution of the whole row's, by which the part's cells and other frames have the same.
  pub record Extension (s : Substitution) : Type 0 where
    pub solution : Substitution
    pub solves : Solves solution (equations_of P whole)
    pub cells : (c : ℕ) → c < length part → is_half (word_at part c) ≡ false → solution [] (at c) ≡ s [] c
    pub frames : (n : ℕ) (q : Path) (k : ℕ) → solution (n ∷ q) k ≡ s (n ∷ q) k

  pub extension : (s : Substitution) → Solves s (equations_of P part) → Extension s
  extension s solves =
      let t : Substitution = drawn at m.rises s in
      let same : then (moving at) t ≡ s = drawn_back at m.rises s in
      let solves_here : Solves (then (moving at) t) (equations_of P part) =
      subst (λ (x : Substitution). Solves x (equations_of P part)) (sym same) solves in
      record {
        solution = extended t;
        solves = extended_solves t;
        cells = λ c low no_half. extended_stays t solves_here c low no_half ∙ ap (λ (x : Substitution). x [] c) same;
        frames = λ n q k. refl;
      }

  -- So the whole row has a solution with equations that speak of the part's cells where the part has.
  pub solvable_there : (es : List Equation) → EquationsSpeakOf (IsWholeCell part) es → Solvable (equations_of P part ++ es)
      → Solvable (equations_of P whole ++ under (moving at) es)
  solvable_there es speaks so =
      let s : Substitution = so.0 in
      let e : Extension s = extension s (solves_front s (equations_of P part) es so.1) in
      let agree : (v : Path × ℕ) → IsWholeCell part v → s v.0 v.1 ≡ then (moving at) e.solution v.0 v.1 = λ v w.
      let is = w.0 in
      subst (λ (q : Path). s q v.1 ≡ then (moving at) e.solution q v.1) (sym is) (sym (e.cells v.1 w.1 w.2)) in (
        e.solution,
        solves_join e.solution (equations_of P whole) (under (moving at) es) e.solves
            (then_under (moving at) e.solution es
            (speaks_solves (IsWholeCell part) s (then (moving at) e.solution) es agree speaks
            (solves_back s (equations_of P part) es so.1))),
      )
