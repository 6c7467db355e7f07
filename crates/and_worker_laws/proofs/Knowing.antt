-- What was known when arithmetic was run, in the tree.
use Rattle.std.proofs.Common.{ℕ, ◌≡◌, true, List, ◌++◌, map, refl, ap, sym, subst, ◌∙◌, ◌⊎◌}
use Rattle.and_model.specs.Terms.{Path, Terms, Substitution, apply_all, are_ground}
use Rattle.and_model.specs.Solutions.{Solves}
use Rattle.and_model.specs.Programs.{Arithmetic, arithmetic_in}
use Rattle.and_model.specs.Closure.{Known, needs}
use Rattle.and_model.specs.Candidates.{In}
use Rattle.and_model.specs.Trees.{query_agenda, arithmetics, weight}
use Rattle.and_laws.proofs.Placing.{place_once}
use Rattle.and_cells.specs.Ranges.{NamedProgram}
use Rattle.and_cells.specs.Meaning.{equations_of}
use Rattle.and_phase_laws.specs.Sharing.{ArithmeticOver}
use Rattle.and_phase_laws.specs.Journals.{Journal, goals, Opening, known}
use Rattle.and_phase_laws.specs.Weaving.{Run, RunsFit}
use Rattle.and_branch_laws.specs.Kept.{goal_of}
use Rattle.and_worker_laws.specs.Acts.{Act, RunInCells, arithmetic_at, AreTaken}
use Rattle.and_worker_laws.specs.Facts.{IsRun}
use Rattle.and_worker_laws.specs.Reading.{AreReadAs, IsRunReadAs}
use Rattle.and_worker_laws.specs.Standing.{Stands}
use Rattle.and_worker_laws.proofs.Solving.{needs_same}
use Rattle.and_worker_laws.proofs.Matching.{length_read, read_before, run_in_cells}
use Rattle.and_worker_laws.proofs.Standing.{standing}
use Rattle.and_worker_laws.proofs.Reading.{taken_before, ReadPhase}
use Rattle.and_worker_laws.proofs.Telling.{all, of_cells, cells_given, known_in_cells, run_speaks}
use Rattle.and_worker_laws.proofs.Meant.{arithmetic_meant}

module _ {P : NamedProgram} {op : Opening P.program (query_agenda P.program)} {acts : List Act} {runs : List RunInCells} {j : Journal} {read : List Run}
    (h : ReadPhase P op acts runs j read) where
  -- A run at its place, in the cells and in the tree.
  module _ (later earlier : List Act) (before : Journal) (are : acts ≡ later ++ earlier) (r : AreReadAs P.program (all h) h.apart earlier before)
      (x : RunInCells) (y : Run) (reads : IsRunReadAs (all h) x y) (was : IsRun P (map goal_of h.kept) (equations_of P h.first) earlier x) where
    stands_then : Stands op (all h) before x.goal
    stands_then =
        standing P h.own h.rs h.first h.kept op h.keeps h.apart acts later earlier before are
        (taken_before P.program (map goal_of h.kept) (weight op.tree) later earlier
        (subst (λ (l : List Act). AreTaken P.program (map goal_of h.kept) (weight op.tree) l) are h.done.taken)) r x.goal was.there

    -- Its terms were known.
    known_then : Known (known op before) y.goal y.terms
    known_then = (subst (λ (ts : Terms). are_ground ts ≡ true) (sym reads.terms) was.known.0, λ s p. gives s p) where
      gives : (s : Substitution) → Solves s (known op before) → apply_all s (needs y.goal) ≡ y.terms
      gives s p =
          let there : Stands op (all h) before x.goal = stands_then in
          ap (λ (a : Arithmetic). apply_all s (needs a)) reads.goal
          ∙ needs_same P (all h) h.names h.named h.apart h.cells h.have_cells s (cells_given h s before p) x.goal.node x.goal.clause.0 reads.path reads.place
          there.clause x.what (run_speaks h x was.is_arithmetic)
          ∙ ap (λ (b : ℕ). apply_all (of_cells h s) (needs (arithmetic_at b x.what))) (sym there.based)
          ∙ was.known.1 (of_cells h s) (known_in_cells h s earlier before r p)
          ∙ sym reads.terms

    -- Its goal was there.
    there_then : In y.goal (arithmetics op.tree) ⊎ In y.goal (goals P.program before)
    there_then =
        let there : Stands op (all h) before x.goal = stands_then in
        let path : there.path ≡ reads.path =
        place_once P.program (all h) h.tree h.made x.goal.node x.goal.node refl there.path reads.path there.place reads.place in
        let same : arithmetic_in there.path x.what ≡ y.goal = ap (λ (q : Path). arithmetic_in q x.what) path ∙ sym reads.goal in
        subst (λ (a : Arithmetic). In a (arithmetics op.tree) ⊎ In a (goals P.program before)) same (there.arithmetic x.what was.is_arithmetic)

    meant_then : ArithmeticOver op.meant y.goal
    meant_then = subst (λ (a : Arithmetic). ArithmeticOver op.meant a) (sym reads.goal) (arithmetic_meant h x.goal.node reads.path reads.place x.what)

  pub runs_fit : RunsFit op read j
  runs_fit front before y at c long =
      let (later, earlier, are, r) = read_before P.program (all h) h.apart acts front before
      (subst (λ (k : Journal). AreReadAs P.program (all h) h.apart acts k) at h.acts_read) in
      let (x, of, reads) = run_in_cells (all h) runs read h.runs_read y c in
      let was : IsRun P (map goal_of h.kept) (equations_of P h.first) earlier x =
      h.done.ran later earlier x are of (sym reads.at ∙ long ∙ sym (length_read P.program (all h) h.apart earlier before r)) in (
        known_then later earlier before are r x y reads was,
        there_then later earlier before are r x y reads was,
        meant_then later earlier before are r x y reads was,
      )
