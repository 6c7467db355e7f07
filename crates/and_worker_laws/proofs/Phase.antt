-- What the workers of a phase did, from its opening to its end.
use Rattle.std.proofs.Common.{◌+◌, ◌≡◌, List, ◌++◌, map, refl, ap, sym, subst, ◌∙◌}
use Rattle.std.proofs.lemmas.List.{append_assoc, map-append}
use Rattle.std.proofs.lemmas.List.Elements.{Contains-append_left}
use Rattle.and_model.specs.Terms.{apply}
use Rattle.and_model.specs.Solutions.{Equation}
use Rattle.and_model.specs.Trees.{QueryTree, query_agenda, weight}
use Rattle.and_model.specs.Reached.{Dead, Steps}
use Rattle.and_model.specs.Reductions.{Reduction, Makes}
use Rattle.and_model.specs.Stands.{Framed}
use Rattle.and_model.specs.declared.goal.Goal.{Goal}
use Rattle.and_model.specs.declared.reference.Ref.{Ref}
use Rattle.and_laws.specs.Naming.{under}
use Rattle.and_cells.specs.Ranges.{NamedProgram}
use Rattle.and_cells.specs.Meaning.{equations_of}
use Rattle.and_phase_laws.specs.Sharing.{Alike}
use Rattle.and_phase_laws.specs.Journals.{Journal, Opening, known}
use Rattle.and_phase_laws.proofs.Whole.{whole_phase}
use Rattle.and_branch_laws.specs.OwnVariables.{OwnVariables}
use Rattle.and_branch_laws.specs.Variables.{IsVariable}
use Rattle.and_branch_laws.specs.Tasks.{arithmetic_among}
use Rattle.and_branch_laws.specs.Kept.{goal_of, task_of, Kept, Unsettled}
use Rattle.and_worker_laws.specs.PhaseCells.{AreCells, all_but, put_apart, cell_equations}
use Rattle.and_worker_laws.proofs.Branches.{branch_opens}
use Rattle.and_worker_laws.specs.Acts.{Act, RunInCells, stated, reductions, weight_taken, HasFailed}
use Rattle.and_worker_laws.specs.Facts.{known_by, IsDone}
use Rattle.and_worker_laws.specs.Unfolding.{AreLeftOf}
use Rattle.and_worker_laws.specs.Leavings.{IsLeftIn, AreReady}
use Rattle.and_worker_laws.specs.Reading.{AreReadAs}
use Rattle.and_worker_laws.proofs.Building.{IsJournal, journal_of_acts, woven_makes}
use Rattle.and_worker_laws.proofs.Matching.{settings_read}
use Rattle.and_worker_laws.proofs.Reading.{ReadPhase, run_was, runs_read}
use Rattle.and_worker_laws.proofs.Fitting.{has_failed, facts_fit, left_over}
use Rattle.and_worker_laws.proofs.Opening.{HasCells, Opens, some_tree, some_cells}
use Rattle.and_worker_laws.proofs.Closing.{unsettled}
use Rattle.and_worker_laws.proofs.Remaining.{remaining}

-- what is said of the end of a phase
abbrev pub Ends : (P : NamedProgram) → List Reduction → List Ref → List Framed → QueryTree P.program → List Act → List RunInCells → Type 0
Ends P rs first kept t acts runs =
    (u : QueryTree P.program) × Makes P.program (rs ++ reductions acts) u × Steps t u × (weight u ≡ weight t + weight_taken P.program acts)
    × (HasFailed acts → Dead u)
    × ((row : List Ref) (pairs : List Equation) (left : List Goal)
    → IsLeftIn P (rs ++ reductions acts) (weight t) (equations_of P first) acts runs row pairs
    → AreLeftOf P.program (map goal_of kept) acts runs left → AreReady P row left
    → (rest : List Framed) × (map goal_of rest ≡ left) × Unsettled P (rs ++ reductions acts) row pairs rest u)

module _ (P : NamedProgram) (own : OwnVariables P) (rs : List Reduction) (first : List Ref) (kept : List Framed)
    (op : Opening P.program (query_agenda P.program)) (k : Kept P rs first kept op.tree) (acts : List Act) (runs : List RunInCells)
    (done : IsDone P (map goal_of kept) (weight op.tree) (equations_of P first) acts runs) where
  module _ (c : HasCells P (rs ++ reductions acts)) (o : Opens P first kept op (rs ++ reductions acts) c) where
    -- What is known in the tree is what is known in the cells, apart.
    known_is : (j : Journal) → AreReadAs P.program (rs ++ reductions acts) c.apart acts j
        → known op j ≡ under (put_apart c.apart) (known_by (equations_of P first) acts) ++ cell_equations c.apart c.cells
    known_is j a =
        let put = put_apart c.apart in
        let cells : List Equation = cell_equations c.apart c.cells in
        let joined : under put (known_by (equations_of P first) acts) ≡ under put (stated acts) ++ under put (equations_of P first) =
        map-append (λ (e : Equation). (apply put e.0, apply put e.1)) (stated acts) (equations_of P first) in
        ap (λ (es : List Equation). es ++ op.cells) (settings_read P.program (rs ++ reductions acts) c.apart acts j a)
        ∙ ap (λ (es : List Equation). under put (stated acts) ++ es) o.cells_are
        ∙ sym (append_assoc (under put (stated acts)) (under put (equations_of P first)) cells)
        ∙ ap (λ (es : List Equation). es ++ cells) (sym joined)

    pub phase_ends : Ends P rs first kept op.tree acts runs
    phase_ends =
        let all : List Reduction = rs ++ reductions acts in
        let j : IsJournal P rs op c.apart acts = journal_of_acts P own rs first kept op k c.apart acts done.taken in
        let (read, read_as) = runs_read P own rs first kept op k c.apart acts runs j.journal done j.read in
        let both : ReadPhase P op acts runs j.journal read = record {
          own = own;
          rs = rs;
          first = first;
          kept = kept;
          keeps = k;
          tree = c.tree;
          made = c.made;
          apart = c.apart;
          cells = c.cells;
          names = c.names;
          cells_are = o.cells_are;
          meant_is = o.meant_are;
          named = c.named;
          have_cells = c.are;
          elsewhere = c.elsewhere;
          done = done;
          acts_read = j.read;
          runs_read = read_as;
        } in
        let fit = facts_fit both in
        let (u, builds, steps, dead, settles) = whole_phase op read j.journal fit.0 fit.1 j.placed fit.2 in
        let (makes, weighs) = woven_makes P rs op k.made c.apart acts j.journal j.written j.read read u builds in (
          u,
          makes,
          steps,
          weighs,
          λ failed. dead (has_failed P.program all c.apart op acts j.journal j.read failed),
          λ row pairs left l left_of ready.
              let (rest, goals_are, framed, based, still, among) = remaining P own rs first kept op k c.apart acts runs j.journal read u left
              done.taken j.read read_as done.in_time (λ r h. (run_was P own rs first kept op k c.apart acts runs j.journal done j.read r h).1)
              builds makes o.gone o.out o.leaves left_of in
              let over = left_over both pairs l.follow l.all in
              let (solved, ran, goals_ran, alike) = settles (under (put_apart c.apart) pairs) (arithmetic_among (map (task_of P.program) rest)) over still in (
                rest,
                goals_are,
                unsettled P own all u makes c (weight op.tree) (equations_of P first) acts runs weighs row pairs l left ready rest goals_are framed based
                    left_of.once solved (among solved (arithmetic_among (map (task_of P.program) rest)) ran goals_ran) op.meant o.meant_are
                    (subst (λ (es : List Equation). Alike op.meant (under (put_apart c.apart) pairs ++ es) solved) (known_is j.journal j.read) alike),
              ),
        )

-- ---- With an opening of the branch

pub workers_end : (P : NamedProgram) → OwnVariables P → (rs : List Reduction) (first : List Ref) (kept : List Framed) (t : QueryTree P.program)
    → Kept P rs first kept t → (acts : List Act) (runs : List RunInCells)
    → IsDone P (map goal_of kept) (weight t) (equations_of P first) acts runs → Ends P rs first kept t acts runs
workers_end P own rs first kept t k acts runs done =
    let all : List Reduction = rs ++ reductions acts in
    let (end_tree, made) = some_tree P own rs first kept t k acts done.taken in
    let c : HasCells P all = some_cells P all end_tree made in
    let are : AreCells (IsVariable P rs) k.names c.apart c.cells = c.fewer rs k.names (λ r i. Contains-append_left rs (reductions acts) r i) k.named in
    let (gone, ran, out, leaves, alike) = branch_opens P own rs first kept t k c.apart c.cells are in
    let op : Opening P.program (query_agenda P.program) = record {
      tree = t;
      solved = k.solved;
      waits = arithmetic_among (map (task_of P.program) kept);
      ran = ran;
      cells = under (put_apart c.apart) (equations_of P first) ++ cell_equations c.apart c.cells;
      meant = all_but c.apart;
      alike = alike;
    } in
    let o : Opens P first kept op all c = record { cells_are = refl; meant_are = refl; gone = gone; out = out; leaves = leaves } in
    phase_ends P own rs first kept op k acts runs done c o
