-- A call's candidates stay candidates while the free cells of its term are free.
use Rattle.std.proofs.Common.{ℕ, ◌+◌, ◌≡◌, ◌<◌, List, [], ◌∷◌, length, refl, sym, ap, ◌∙◌, subst, inl, inr, Contains}
use Rattle.std.proofs.lemmas.List.Elements.{All-contains}
use Rattle.and_model.specs.Terms.{Path, Term, none, more, variable, variables_of, Substitution, apply, apply_all, framed}
use Rattle.and_model.specs.Solutions.{Equation, Solves}
use Rattle.and_model.specs.Programs
use Rattle.and_model.specs.Programs.{Item, Arithmetic, clause_at, head_in}
use Rattle.and_model.specs.Closure.{needs}
use Rattle.and_model.specs.Candidates.{guard, In, Candidate}
use Rattle.and_model.specs.declared.goal.Goal.{Goal}
use Rattle.and_model.specs.declared.reference.Ref.{Ref}
use Rattle.and_model.specs.declared.reference.Ref.TheVariants.{Cell}
use Rattle.and_program.specs.Skeletons.{node_term, AllFall}
use Rattle.and_laws.proofs.Solving.{solves_then}
use Rattle.and_laws.proofs.Substitutions.{then, apply_then}
use Rattle.and_cells.specs.Ranges.{NamedProgram}
use Rattle.and_cells.specs.Rows.{IsSound}
use Rattle.and_cells.specs.Meaning.{StandsFor, IsSettled, equations_of}
use Rattle.and_cells.specs.Parts.{part_at}
use Rattle.and_cells.specs.Solved.{IsMostGeneral}
use Rattle.and_cells.proofs.OneTerm.{one_term, apply_agree}
use Rattle.and_cell_laws.proofs.Settling.{settled_rows_have_terms}
use Rattle.and_cell_laws.proofs.TermsOfRows.{rows_with_terms_are_solutions, cell_is_below, cell_is_whole}
use Rattle.and_branch_laws.specs.Variables.{cells_from, placed}
use Rattle.and_branch_laws.specs.Judging.{outside}
use Rattle.and_guards.specs.Goals.{IsNodeOf}
use Rattle.and_cells.specs.Seen.{Grows, AreFree}
use Rattle.and_determinacy.specs.Watching.{RestsOn, IsWatched}
use Rattle.and_determinacy.proofs.Growing.{cell_stays}
use Rattle.and_determinacy.proofs.Watched.{variables_watched}
use Rattle.and_guards.proofs.Reading.{AreWhole}
use Rattle.and_guards.proofs.Widening.{solved_alike}

-- they give the variables of the frame outside the same
abbrev AgreeOutside : Substitution → Substitution → Type 0
AgreeOutside s t = (k : ℕ) → s outside k ≡ t outside k

same_outside : (s t : Substitution) → AgreeOutside s t → (u : Term) → apply s (framed outside u) ≡ apply t (framed outside u)
same_outside s t agree u =
    apply_then (λ q k. variable outside k) s u
    ∙ apply_agree (then (λ q k. variable outside k) s) (then (λ q k. variable outside k) t) u (λ v c. agree v.1)
    ∙ sym (apply_then (λ q k. variable outside k) t u)

-- A guard needs of such substitutions the same.
same_needs : (s t : Substitution) → AgreeOutside s t → (items : List Item) (a : Arithmetic) → In a (guard outside items)
    → apply_all s (needs a) ≡ apply_all t (needs a)
same_needs s t agree [] a i = elim i [ ]
same_needs s t agree (Programs.call g ∷ items) a i = elim i [ ]
same_needs s t agree (Programs.equal b c ∷ items) a i = elim i [ ]
same_needs s t agree (Programs.fail ∷ items) a i = elim i [ ]
same_needs s t agree (Programs.arithmetic (Programs.is l r) ∷ items) a i = elim i [ ]
same_needs s t agree (Programs.arithmetic (Programs.compare m b c) ∷ items) a (inl e) =
    subst (λ (x : Arithmetic). apply_all s (needs x) ≡ apply_all t (needs x)) (sym e)
    (ap (λ (x : Term). more x (more (apply s (framed outside c)) none)) (same_outside s t agree b)
    ∙ ap (λ (x : Term). more (apply t (framed outside b)) (more x none)) (same_outside s t agree c))
same_needs s t agree (Programs.arithmetic (Programs.compare m b c) ∷ items) a (inr i) = same_needs s t agree items a i

-- the first in cells, and then the second; the second alone in other frames
onto : Substitution → Substitution → Substitution
onto first s [] k = apply s (first [] k)
onto first s (n ∷ q) k = s (n ∷ q) k

module _ (P : NamedProgram) (row later : List Ref) (sound : IsSound P row) (settled : IsSettled P row) (later_sound : IsSound P later)
    (later_settled : IsSettled P later) (grows : Grows row later) (cells : List ℕ) (free : AreFree later cells) (base : ℕ) (call : Term)
    (whole : AreWhole row base call)
    (watched : (v : Path × ℕ) → Contains (variables_of call) v → IsWatched P row (length row) cells (Cell (base + 1 + v.1))) where
  now : IsMostGeneral P row (equations_of P row)
  now = rows_with_terms_are_solutions P row sound ((settled_rows_have_terms P row sound).0 settled)

  then_later : IsMostGeneral P later (equations_of P later)
  then_later = rows_with_terms_are_solutions P later later_sound ((settled_rows_have_terms P later later_sound).0 later_settled)

  -- The call's variables have the same terms in both rows.
  same_terms : (v : Path × ℕ) → Contains (variables_of call) v
      → then_later.solution [] (base + 1 + v.1) ≡ now.solution [] (base + 1 + v.1)
  same_terms v c =
      let cell : ℕ = base + 1 + v.1 in
      let stands : StandsFor P row (Cell cell) (now.solution [] cell) = now.of_cells cell (whole v c).0 (whole v c).1 in
      let stays : StandsFor P later (Cell cell) (now.solution [] cell) =
      cell_stays P row later sound grows cells free cell (now.solution [] cell) stands (watched v c) in
      one_term P later (Cell cell) (then_later.solution [] cell) (now.solution [] cell)
      (then_later.of_cells cell (cell_is_below P later cell (now.solution [] cell) stays)
      (cell_is_whole P later cell (now.solution [] cell) stays)) stays

  module _ (c : ℕ) where
    abbrev asked : List Ref → List Equation
    asked r = (placed base call, head_in P.program outside c) ∷ equations_of P r

    abbrev moved : Substitution → Substitution
    moved s = onto then_later.solution s

    moved_call : (s : Substitution) → Solves s (equations_of P row) → apply (onto then_later.solution s) (placed base call) ≡ apply s (placed base call)
    unfolding onto
    moved_call s solves =
        apply_then (cells_from base) (moved s) call
        ∙ apply_agree (then (cells_from base) (moved s)) (then (cells_from base) s) call
        (λ v i. ap (apply s) (same_terms v i) ∙ sym (now.most_general.1 s solves [] (base + 1 + v.1)))
        ∙ sym (apply_then (cells_from base) s call)

    moved_outside : (s : Substitution) → AgreeOutside (onto then_later.solution s) s
    unfolding onto
    moved_outside s k = refl

    moved_solves : (s : Substitution) → Solves s (asked row) → Solves (onto then_later.solution s) (asked later)
    unfolding onto
    moved_solves s solves = (
      moved_call s solves.1 ∙ solves.0 ∙ sym (same_outside (moved s) s (moved_outside s) (clause_at P.program c).head),
      solved_alike P later (then then_later.solution s) (moved s) later_sound (λ cell below. refl)
          (solves_then then_later.solution s (equations_of P later) then_later.most_general.0),
    )

    -- So each candidate is one still.
    pub still_candidate : Candidate P.program (equations_of P row) outside (placed base call) c
        → Candidate P.program (equations_of P later) outside (placed base call) c
    still_candidate k = (
      k.0,
      (moved k.1.0, moved_solves k.1.0 k.1.1),
      λ a i refuted. k.2 a i (
        refuted.0,
        (
          refuted.1.0,
          λ s solves.
              sym (same_needs (moved s) s (moved_outside s) (clause_at P.program c).body a i) ∙ refuted.1.1 (moved s) (moved_solves s solves),
        ),
        refuted.2,
      ),
    )

-- So a goal rests on the cells that are watched from its node.
pub rests_on : (P : NamedProgram) (row : List Ref) (g : Goal) (node : ℕ) (cells : List ℕ) → AllFall 0 P.skeleton.nodes → IsSound P row
    → IsSettled P row → IsNodeOf P row g node → IsWatched P row (length row) cells (part_at P g.base node) → RestsOn P row g cells
rests_on P row g node cells fall sound settled is watched later grows later_sound later_settled free c k =
    let call : Term = node_term P.skeleton.nodes node in
    let whole : AreWhole row g.base call = λ v i. (
      All-contains (λ (v : Path × ℕ). g.base + 1 + v.1 < length row) (variables_of call) v is.reads.in_range.cells i,
      is.reads.whole v i,
    ) in
    subst (λ (t : Term). Candidate P.program (equations_of P later) outside (placed g.base t) c) (sym is.term)
    (still_candidate P row later sound settled later_sound later_settled grows cells free g.base call whole
    (variables_watched P fall row (length row) cells g.base node watched) c
    (subst (λ (t : Term). Candidate P.program (equations_of P row) outside (placed g.base t) c) is.term k))
