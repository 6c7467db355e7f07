-- Candidates of a call in a phase's tree are among those in its cells.
use Rattle.std.proofs.Common.{ℕ, ◌+◌, ◌<◌, ◌≡◌, ◌≢◌, List, [], ◌∷◌, ◌++◌, sym, subst, Contains}
use Rattle.std.proofs.lemmas.List.Elements.{All-weaker, All-contains_itself}
use Rattle.and_model.specs.Terms.{Path, variables_of, Substitution, framed}
use Rattle.and_model.specs.Solutions.{Equation, Solves, Entails}
use Rattle.and_model.specs.Programs.{clause_at}
use Rattle.and_model.specs.Candidates.{Candidate}
use Rattle.and_model.specs.Trees.{query_agenda}
use Rattle.and_model.specs.Reductions.{PlaceHas}
use Rattle.and_model.specs.Stands.{ClauseHas, term_of}
use Rattle.and_model.specs.OwnVariables.{IsOwn, AreOwn}
use Rattle.and_model.specs.declared.goal.Goal.{Goal}
use Rattle.and_laws.specs.Naming.{under}
use Rattle.and_laws.proofs.PrefixLemmas.{not_empty}
use Rattle.and_cells.specs.Ranges.{NamedProgram}
use Rattle.and_cells.specs.Meaning.{equations_of}
use Rattle.and_phase_laws.specs.Journals.{Journal, Opening, known}
use Rattle.and_phase_laws.specs.Weaving.{Run, woven}
use Rattle.and_branch_laws.specs.Judging.{outside}
use Rattle.and_branch_laws.proofs.Speaking.{then_under}
use Rattle.and_branch_laws.proofs.Owning.{term_speaks}
use Rattle.and_worker_laws.specs.PhaseCells.{put_apart}
use Rattle.and_worker_laws.proofs.Candidates.{candidate_in_cells}
use Rattle.and_worker_laws.specs.Acts.{Act, RunInCells}
use Rattle.and_worker_laws.specs.Facts.{AreAmong, known_by}
use Rattle.and_worker_laws.specs.Reading.{AreReadAs}
use Rattle.and_worker_laws.proofs.Solving.{variable_same}
use Rattle.and_worker_laws.proofs.Reading.{ReadPhase}
use Rattle.and_worker_laws.proofs.Telling.{all, of_cells, cells_given, known_in_cells, known_woven}

outside_is_no_cell : outside ≢ []
outside_is_no_cell is = cc

module _ {P : NamedProgram} {op : Opening P.program (query_agenda P.program)} {acts : List Act} {runs : List RunInCells} {j : Journal} {read : List Run}
    (h : ReadPhase P op acts runs j read) (earlier : List Act) (before : Journal) (r : AreReadAs P.program (all h) h.apart earlier before) where
  -- What follows from what is known of the cells follows in the tree.
  follows : (cells : List Equation) → Entails (known_by (equations_of P h.first) earlier) cells
      → Entails (known op (woven read before)) (under (put_apart h.apart) cells)
  follows cells f s p =
      then_under (put_apart h.apart) s cells (f (of_cells h s) (known_in_cells h s earlier before r (known_woven h s before p)))

  pub candidate_among : (g : Goal) (clauses : List ℕ) → AreAmong P (known_by (equations_of P h.first) earlier) g clauses
      → (p : Path) → PlaceHas (all h) g.node p → ClauseHas (all h) g.node g.clause.0 → g.base ≡ g.node
      → (c : ℕ) → Candidate P.program (known op (woven read before)) (p ++ g.item ∷ []) (framed p (term_of P.program g)) c → Contains clauses c
  candidate_among g clauses a p place clause based c candidate =
      let count : ℕ = (clause_at P.program g.clause.0).variables in
      let own : AreOwn count (term_of P.program g) =
      All-weaker (Contains (variables_of (term_of P.program g))) (IsOwn count) (term_speaks P h.own g) (variables_of (term_of P.program g))
      (All-contains_itself (variables_of (term_of P.program g))) in
      let same : (s : Substitution) → Solves s (known op (woven read before)) → (k : ℕ) → k < count → s p k ≡ s h.apart (g.base + 1 + k) =
      λ s solved k low. subst (λ (b : ℕ). s p k ≡ s h.apart (b + 1 + k)) (sym based)
      (variable_same P (all h) h.names h.named h.apart h.cells h.have_cells s (cells_given h s before (known_woven h s before solved))
      g.node g.clause.0 p place clause k low) in
      a.all c (candidate_in_cells P.program (known op (woven read before)) a.cells (term_of P.program g) g.base count p (p ++ g.item ∷ []) outside h.apart c
      a.speak own (h.elsewhere g.node p g.item place).0 (λ is. not_empty p g.item (sym is)) outside_is_no_cell (follows a.cells a.follow) same candidate)
