use Rattle.std.proofs.Common.{◌++◌}
use Rattle.std.proofs.lemmas.Result.{on_ok_weaker}
use Rattle.and_model.specs.Programs.{clause_at}
use Rattle.and_cells.specs.Meaning.{equations_of}
use Rattle.and_cells.specs.Seen.{word_at}
use Rattle.and_unify.specs.Pairs.{equations_of_pairs}
use Rattle.and_branch_laws.specs.Reducing.{body_equations}
use Rattle.and_branch_laws.specs.Variables.{placed}
use Rattle.and_step_laws.proofs.NewFrames.{failing_unsolved}
use Rattle.and_reduction.proofs.SettledAsked.{settled_asked, unsolved_asked}
use Rattle.and_unify.proofs.SettlingDone.{places_stay}
use Rattle.and_reduction.proofs.Writing.{asks_same}
use Rattle.and_reduction.proofs.taking.settle_frame.Goals as goal

pub returns-then-not-branch-clause-unsolved : goal.returns-then-not-branch-clause-unsolved
returns-then-not-branch-clause-unsolved g c = λ e.
    let P = g.N.Naming.program in
    failing_unsolved (equations_of P c.args.cells.now) (equations_of_pairs P (word_at c.args.cells.now) c.args.tools.now.pairs)
    (placed c.args.floor) (clause_at P.program c.args.clause.0).body
    (c.in_ok-ask_items.ensures.failing (let t = c.if-not-branch.true in cc))

pub settle_noted-answer-requires-clause-written : goal.settle_noted-answer-requires-clause-written
settle_noted-answer-requires-clause-written g c =
    (c.in_ok-ask_items.ensures.asked (let t = c.if-not-branch.false in cc)).ready.written

pub returns-clause-solved : goal.returns-clause-solved
returns-clause-solved g c = λ e.
    let P = g.N.Naming.program in
    let asked = c.in_ok-ask_items.ensures.asked (let t = c.if-not-branch.false in cc) in
    let es = equations_of_pairs P (word_at c.args.cells.now) c.args.tools.now.pairs
    ++ body_equations (placed c.args.floor) (clause_at P.program c.args.clause.0).body in
    settled_asked P c.args.cells.now c.settle_noted-answer.new.cells c.ask_items.new.pairs es c.settle_noted-answer.result asked.equations
    c.settle_noted-answer.ensures.settles c.outcome_of.ensures.sound (c.outcome_of.ensures.solved e)

pub returns-clause-unsolved : goal.returns-clause-unsolved
returns-clause-unsolved g c = λ e.
    let P = g.N.Naming.program in
    let asked = c.in_ok-ask_items.ensures.asked (let t = c.if-not-branch.false in cc) in
    let es = equations_of_pairs P (word_at c.args.cells.now) c.args.tools.now.pairs
    ++ body_equations (placed c.args.floor) (clause_at P.program c.args.clause.0).body in
    unsolved_asked P c.args.cells.now c.settle_noted-answer.new.cells c.ask_items.new.pairs es c.settle_noted-answer.result asked.equations
    c.settle_noted-answer.ensures.settles (c.outcome_of.ensures.unsolved e)

pub returns-clause-noted : goal.returns-clause-noted
returns-clause-noted g c = on_ok_weaker c.outcome_of.result c.settle_noted-answer.ensures.noted c.outcome_of.ensures.memory

pub returns-then-not-branch-clause-nodes : goal.returns-then-not-branch-clause-nodes
returns-then-not-branch-clause-nodes g c = record {
  pairs = c.args.tools.now.pairs;
  in_range = c.requires.ready.in_range;
  asked = asks_same g.N.Naming.program c.args.floor c.args.tools.now.pairs;
  sets = places_stay g.N.Naming.program c.args.cells.now c.args.tools.now.pairs;
}

pub returns-clause-nodes : goal.returns-clause-nodes
returns-clause-nodes g c =
    let asked = c.in_ok-ask_items.ensures.asked (let t = c.if-not-branch.false in cc) in
    on_ok_weaker c.outcome_of.result (λ other. record {
      pairs = c.ask_items.new.pairs;
      in_range = asked.ready.in_range;
      asked = c.in_ok-ask_items.ensures.nodes (let t = c.if-not-branch.false in cc);
      sets = c.settle_noted-answer.ensures.places;
    }) c.outcome_of.ensures.memory
