-- A phase leads from a branch to another: the structure of what was done, and the facts, by the law of workers.
use Rattle.std.proofs.Common.{ℕ, ◌≡◌, ◌≤◌, true, false, List, ◌++◌, map, length, sym, subst, arith}
use Rattle.and_model.specs.Trees.{QueryTree, weight}
use Rattle.and_model.specs.Reached.{Dead, Steps}
use Rattle.and_model.specs.Reductions.{Reduction, Makes}
use Rattle.and_model.specs.Stands.{Framed}
use Rattle.and_model.specs.declared.goal.Reduction as declared
use Rattle.and_model.specs.declared.reference.Ref.{Ref}
use Rattle.and_cells.specs.Ranges.{NamedProgram}
use Rattle.and_cells.specs.Seen.{word_at}
use Rattle.and_cells.specs.Meaning.{equations_of}
use Rattle.and_unify.specs.Pairs.{equations_of_pairs}
use Rattle.and_code.specs.Written.{all_written}
use Rattle.and_branch_laws.specs.OwnVariables.{OwnVariables}
use Rattle.and_branch_laws.specs.Kept.{Kept, Unsettled, goal_of}
use Rattle.and_worker_laws.specs.Facts.{IsDone}
use Rattle.and_worker_laws.specs.Leavings.{AreReady, IsLeftIn}
use Rattle.and_worker_laws.proofs.Phase.{workers_end}
use Rattle.and_handed.specs.declared.told.HandedOn.{HandedOn}
use Rattle.and_gathering.specs.declared.gathering.Gathered.{Gathered}
use Rattle.and_gathering.specs.Gathering.{IsGathered}
use Rattle.and_row_check.specs.Places.{all_frames, IsWhole, ArePairsWhole}
use Rattle.and_closing_laws.specs.Phases.{HasPhased}
use Rattle.and_closing_laws.proofs.Structure.{Structure, structure}
use Rattle.and_closing_laws.proofs.Facts

module _ (P : NamedProgram) (own : OwnVariables P) (old : List declared.Reduction) (first row : List Ref) (kept : List Framed)
    (t : QueryTree P.program) (tolds : List HandedOn) (limit : ℕ) (g : Gathered) (k : Kept P (all_written old) first kept t)
    (h : HasPhased P first row tolds) (q : IsGathered P.program (map goal_of kept) (weight t) limit tolds g) (long : length row ≡ g.end)
    (whole : IsWhole P (all_frames (old ++ g.made)) row) where
  abbrev made : Structure P first row (map goal_of kept) (weight t) tolds g h
  made = structure P (all_written old) first row kept t tolds limit g (all_frames (old ++ g.made)) k h q whole

  -- All that the law of workers asks holds of the acts and the runs.
  is_done : IsDone P (map goal_of kept) (weight t) (equations_of P first) made.acts made.runs
  is_done = record {
    taken = made.taken;
    facts = Facts.facts P own old first row kept t tolds limit g k h q long whole made;
    ran = λ front before r is among at.
        let known = Facts.known P own old first row kept t tolds limit g k h q long whole made front before r is among at in
        record { there = made.runs_there front before r is among at; is_arithmetic = known.0; known = known.1 };
    in_time = made.in_time;
  }

  pub leaves_branch : (u : QueryTree P.program) × Makes P.program (all_written old ++ all_written g.made) u × Steps t u × (weight u ≤ limit)
      × (g.failed ≡ true → Dead u)
      × (g.failed ≡ false → ArePairsWhole P (all_frames (old ++ g.made)) row g.pairs → AreReady P row g.goals.items
      → (rest : List Framed) × (map goal_of rest ≡ g.goals.items)
      × Unsettled P (all_written old ++ all_written g.made) row (equations_of_pairs P (word_at row) g.pairs) rest u)
  leaves_branch =
      let (u, makes, steps, weighs, dead, settles) = workers_end P own (all_written old) first kept t k made.acts made.runs is_done in
      let ends = made.ends in
      let fits = q.fits in
      let rs : List Reduction = all_written old in (
        u,
        subst (λ (l : List Reduction). Makes P.program (rs ++ l) u) made.reductions makes,
        steps,
        omega arith,
        λ failed. dead (made.failed failed),
        λ lives pairs ready.
            let left = Facts.left_in P own old first row kept t tolds limit g k h q long whole made lives pairs in
            let (rest, goals_are, unsettled) = settles row (equations_of_pairs P (word_at row) g.pairs) g.goals.items
            (subst (λ (l : List Reduction). IsLeftIn P (rs ++ l) (weight t) (equations_of P first) made.acts made.runs row
            (equations_of_pairs P (word_at row) g.pairs)) (sym made.reductions) left) made.left ready in (
              rest,
              goals_are,
              subst (λ (l : List Reduction). Unsettled P (rs ++ l) row (equations_of_pairs P (word_at row) g.pairs) rest u)
                  made.reductions unsettled,
            ),
      )
