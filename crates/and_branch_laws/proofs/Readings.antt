-- What reads as a ground term is that in every solution, and the other way round.
use Rattle.std.proofs.Common.{ℕ, ◌+◌, ◌≡◌, ◌<◌, true, false, List, [], length, refl, sym, ap, ◌∙◌, subst, Contains}
use Rattle.and_model.specs.Terms.{Path, Term, variables_of, is_ground, Substitution, apply}
use Rattle.and_model.specs.Solutions.{Equation, Solves, Entails}
use Rattle.and_model.specs.Store.{is_half}
use Rattle.and_model.specs.declared.reference.Ref.{Ref}
use Rattle.and_model.specs.declared.reference.Ref.TheVariants.{Cell}
use Rattle.and_laws.proofs.Substitutions.{then, apply_then, apply_ground}
use Rattle.and_cells.specs.Ranges.{NamedProgram}
use Rattle.and_cells.specs.Seen.{word_at}
use Rattle.and_cells.specs.Meaning.{StandsFor}
use Rattle.and_cells.specs.Solved.{IsMostGeneral}
use Rattle.and_cells.proofs.OneTerm.{one_term, apply_agree}
use Rattle.and_cell_laws.proofs.TermsOfRows.{cell_is_below, cell_is_whole}
use Rattle.and_branch_laws.specs.Variables.{cells_from, placed}
use Rattle.and_branch_laws.specs.Running.{IsRead}

-- A most general solution of equations is one of others that ask for the same.
pub general_alike : (P : NamedProgram) (row : List Ref) (es ds : List Equation) → Entails es ds → Entails ds es → IsMostGeneral P row es
    → IsMostGeneral P row ds
general_alike P row es ds to fro g = record {
  solution = g.solution;
  most_general = (to g.solution g.most_general.0, λ t p. g.most_general.1 t (fro t p));
  of_cells = g.of_cells;
}

-- A term reads in one way.
pub one_reading : (P : NamedProgram) (row : List Ref) (base : ℕ) (t u w : Term) → IsRead P row base t u → IsRead P row base t w → u ≡ w
one_reading P row base t u w r q =
    r.reads
    ∙ apply_agree r.values q.values t (λ v c.
    one_term P row (Cell (base + 1 + v.1)) (r.values v.0 v.1) (q.values v.0 v.1) (r.cells v c) (q.cells v c))
    ∙ sym q.reads

-- the cells of the term's variables, in the frame at the base, are of the row and no words of pairs
abbrev pub AreWhole : List Ref → (base : ℕ) → Term → Type 0
AreWhole row base t = (v : Path × ℕ) → Contains (variables_of t) v → (base + 1 + v.1 < length row)
    × (is_half (word_at row (base + 1 + v.1)) ≡ false)

module _ (P : NamedProgram) (row : List Ref) (es : List Equation) (g : IsMostGeneral P row es) (base : ℕ) where
  -- what the row's cells give the term's variables
  abbrev reading : Substitution
  reading = λ q k. g.solution [] (base + 1 + k)

  -- Whatever has whole cells reads as some term,
  pub read_term : (t : Term) → AreWhole row base t → IsRead P row base t (apply (λ q k. g.solution [] (base + 1 + k)) t)
  read_term t whole = record {
    values = reading;
    cells = λ v c. g.of_cells (base + 1 + v.1) (whole v c).0 (whole v c).1;
    reads = refl;
  }

  -- and what reads as a ground term is that in each solution,
  pub read_known : (t u : Term) → IsRead P row base t u → is_ground u ≡ true → (s : Substitution) → Solves s es
      → apply s (placed base t) ≡ u
  read_known t u r ground s solves =
      let through : (v : Path × ℕ) → Contains (variables_of t) v → s [] (base + 1 + v.1) ≡ apply s (r.values v.0 v.1) =
      λ v c. (let cell : ℕ = base + 1 + v.1 in
      let stands : StandsFor P row (Cell cell) (r.values v.0 v.1) = r.cells v c in
      let own : StandsFor P row (Cell cell) (g.solution [] cell) = g.of_cells cell (cell_is_below P row cell (r.values v.0 v.1) stands)
      (cell_is_whole P row cell (r.values v.0 v.1) stands) in
      g.most_general.1 s solves [] cell
      ∙ ap (apply s) (one_term P row (Cell cell) (g.solution [] cell) (r.values v.0 v.1) own stands)) in
      apply_then (cells_from base) s t ∙ apply_agree (then (cells_from base) s) (then r.values s) t through
      ∙ sym (apply_then r.values s t) ∙ ap (apply s) (sym r.reads) ∙ apply_ground s u ground

  -- and the other way round.
  pub known_read : (t u : Term) → AreWhole row base t → ((s : Substitution) → Solves s es → apply s (placed base t) ≡ u)
      → IsRead P row base t u
  known_read t u whole known =
      let same : apply (λ q k. g.solution [] (base + 1 + k)) t ≡ u =
      sym (apply_then (cells_from base) g.solution t) ∙ known g.solution g.most_general.0 in
      subst (λ (x : Term). IsRead P row base t x) same (read_term t whole)
