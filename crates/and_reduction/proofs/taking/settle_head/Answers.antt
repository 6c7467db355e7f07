use Rattle.std.proofs.Common.{◌≡◌, List, [], ◌++◌, sym, ap, ◌∙◌}
use Rattle.std.proofs.lemmas.Result.{on_ok_weaker}
use Rattle.and_model.specs.Programs.{Item, clause_at}
use Rattle.and_cells.specs.Seen.{word_at}
use Rattle.and_unify.specs.Pairs.{equations_of_pairs}
use Rattle.and_branch_laws.specs.Reducing.{body_equations}
use Rattle.and_branch_laws.specs.Variables.{placed}
use Rattle.and_heads.specs.Calls.{call_and_head}
use Rattle.and_step_laws.proofs.AskedPairs.{nothing_asked}
use Rattle.and_reduction.proofs.SettledAsked.{settled_asked, unsolved_asked}
use Rattle.and_reduction.proofs.Writing.{head_asks}
use Rattle.and_reduction.proofs.taking.settle_head.Goals as goal

pub returns-clause-solved : goal.returns-clause-solved
returns-clause-solved g c = λ e.
    let P = g.N.Naming.program in
    let row = c.args.cells.now in
    let pairs = call_and_head P c.args.base c.args.call.0 c.args.floor c.args.head.0 in
    let put = placed c.args.floor in
    let es = body_equations put (clause_at P.program c.args.clause.0).body in
    let none : es ≡ [] =
    ap (λ (items : List Item). body_equations put items) (sym c.requires.items.body)
    ∙ c.ask_nothing.ensures c.if-not-ask_nothing.false put P.skeleton.nodes in
    settled_asked P row c.settle_call_noted-answer.new.cells pairs (equations_of_pairs P (word_at row) pairs ++ es) c.settle_call_noted-answer.result
    (nothing_asked P row c.args.floor pairs es none c.requires.ready).equations c.settle_call_noted-answer.ensures.settles
    c.outcome_of.ensures.sound (c.outcome_of.ensures.solved e)

pub returns-clause-unsolved : goal.returns-clause-unsolved
returns-clause-unsolved g c = λ e.
    let P = g.N.Naming.program in
    let row = c.args.cells.now in
    let pairs = call_and_head P c.args.base c.args.call.0 c.args.floor c.args.head.0 in
    let put = placed c.args.floor in
    let es = body_equations put (clause_at P.program c.args.clause.0).body in
    let none : es ≡ [] =
    ap (λ (items : List Item). body_equations put items) (sym c.requires.items.body)
    ∙ c.ask_nothing.ensures c.if-not-ask_nothing.false put P.skeleton.nodes in
    unsolved_asked P row c.settle_call_noted-answer.new.cells pairs (equations_of_pairs P (word_at row) pairs ++ es) c.settle_call_noted-answer.result
    (nothing_asked P row c.args.floor pairs es none c.requires.ready).equations c.settle_call_noted-answer.ensures.settles
    (c.outcome_of.ensures.unsolved e)

pub returns-clause-noted : goal.returns-clause-noted
returns-clause-noted g c = on_ok_weaker c.outcome_of.result c.settle_call_noted-answer.ensures.noted c.outcome_of.ensures.memory

pub returns-clause-nodes : goal.returns-clause-nodes
returns-clause-nodes g c =
    let P = g.N.Naming.program in
    on_ok_weaker c.outcome_of.result (λ other. record {
      pairs = call_and_head P c.args.base c.args.call.0 c.args.floor c.args.head.0;
      in_range = c.requires.ready.in_range;
      asked = head_asks P c.args.base c.args.call.0 c.args.floor c.args.head.0;
      sets = c.settle_call_noted-answer.ensures.places;
    }) c.outcome_of.ensures.memory
