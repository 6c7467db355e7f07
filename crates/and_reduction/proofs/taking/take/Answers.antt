use Rattle.std.proofs.Common.{List, [], ◌∷◌, ◌++◌, length}
use Rattle.std.proofs.lemmas.Result.{on_ok_weaker}
use Rattle.and_model.specs.Programs.{clause_at, clause_weight}
use Rattle.and_model.specs.Solutions.{Equation, Solvable}
use Rattle.and_model.specs.declared.reference.Ref.{Ref}
use Rattle.and_cells.specs.Meaning.{equations_of}
use Rattle.and_cells.specs.Parts.{part_at}
use Rattle.and_branch_laws.specs.Settling.{Settled, widened}
use Rattle.and_reduction.proofs.NotedSteps.{framed_noted}
use Rattle.and_reduction.proofs.TakenHeads.{head_asked, reduced}
use Rattle.and_reduction.proofs.Writing.{framed_sets}
use Rattle.and_reduction.proofs.taking.take.Goals as goal

pub settle_head-requires-clause-call : goal.settle_head-requires-clause-call
settle_head-requires-clause-call g c =
    let P = g.N.Naming.program in
    let asked = head_asked P c.args.loaded.now c.requires.program c.skeleton_is_of_the_program.ensures.skeleton
    c.skeleton_is_of_the_program.ensures.own_variables c.skeleton_is_of_the_program.ensures.few c.args.cells.now c.open_frame.new.cells
    c.args.clause.0 c.in_ok-floor.floor c.args.goal c.args.call.0 c.args.head.0 c.requires.clause c.in_ok-floor.ensures.widened
    c.in_ok-floor.ensures.floor c.requires.goal c.in_ok-floor.ensures.frame c.requires.call c.requires.head in
    asked.call_in_range

pub settle_head-requires-clause-head : goal.settle_head-requires-clause-head
settle_head-requires-clause-head g c =
    let P = g.N.Naming.program in
    let asked = head_asked P c.args.loaded.now c.requires.program c.skeleton_is_of_the_program.ensures.skeleton
    c.skeleton_is_of_the_program.ensures.own_variables c.skeleton_is_of_the_program.ensures.few c.args.cells.now c.open_frame.new.cells
    c.args.clause.0 c.in_ok-floor.floor c.args.goal c.args.call.0 c.args.head.0 c.requires.clause c.in_ok-floor.ensures.widened
    c.in_ok-floor.ensures.floor c.requires.goal c.in_ok-floor.ensures.frame c.requires.call c.requires.head in
    asked.head_in_range

pub settle_head-requires-clause-ready : goal.settle_head-requires-clause-ready
settle_head-requires-clause-ready g c =
    let P = g.N.Naming.program in
    let asked = head_asked P c.args.loaded.now c.requires.program c.skeleton_is_of_the_program.ensures.skeleton
    c.skeleton_is_of_the_program.ensures.own_variables c.skeleton_is_of_the_program.ensures.few c.args.cells.now c.open_frame.new.cells
    c.args.clause.0 c.in_ok-floor.floor c.args.goal c.args.call.0 c.args.head.0 c.requires.clause c.in_ok-floor.ensures.widened
    c.in_ok-floor.ensures.floor c.requires.goal c.in_ok-floor.ensures.frame c.requires.call c.requires.head in
    asked.ask.ready

pub returns-clause-solved : goal.returns-clause-solved
returns-clause-solved g c = λ e.
    let P = g.N.Naming.program in
    reduced P c.args.loaded.now c.requires.program c.skeleton_is_of_the_program.ensures.skeleton
    c.skeleton_is_of_the_program.ensures.own_variables c.skeleton_is_of_the_program.ensures.few c.args.cells.now c.open_frame.new.cells
    c.args.clause.0 c.in_ok-floor.floor c.args.goal c.args.call.0 c.args.head.0 c.requires.clause c.in_ok-floor.ensures.widened
    c.in_ok-floor.ensures.floor c.requires.goal c.in_ok-floor.ensures.frame c.requires.call c.requires.head
    (λ (r : List Ref) (es : List Equation). Settled P r c.settle_head.new.cells es) (c.settle_head.ensures.solved e)

pub returns-clause-unsolved : goal.returns-clause-unsolved
returns-clause-unsolved g c = λ e.
    let P = g.N.Naming.program in
    reduced P c.args.loaded.now c.requires.program c.skeleton_is_of_the_program.ensures.skeleton
    c.skeleton_is_of_the_program.ensures.own_variables c.skeleton_is_of_the_program.ensures.few c.args.cells.now c.open_frame.new.cells
    c.args.clause.0 c.in_ok-floor.floor c.args.goal c.args.call.0 c.args.head.0 c.requires.clause c.in_ok-floor.ensures.widened
    c.in_ok-floor.ensures.floor c.requires.goal c.in_ok-floor.ensures.frame c.requires.call c.requires.head
    (λ (r : List Ref) (es : List Equation). Solvable (equations_of P r ++ es) → ⊥) (c.settle_head.ensures.unsolved e)

pub returns-clause-noted : goal.returns-clause-noted
returns-clause-noted g c =
    let P = g.N.Naming.program in
    on_ok_weaker c.settle_head.result
    (framed_noted c.args.trail.now c.settle_head.new.trail c.args.cells.now c.open_frame.new.cells c.settle_head.new.cells
    (clause_weight (clause_at P.program c.args.clause.0)) c.in_ok-floor.ensures.widened)
    c.settle_head.ensures.noted

pub returns-clause-nodes : goal.returns-clause-nodes
returns-clause-nodes g c =
    let P = g.N.Naming.program in
    on_ok_weaker c.settle_head.result
    (framed_sets P c.open_frame.new.cells (widened c.args.cells.now (clause_weight (clause_at P.program c.args.clause.0))) c.settle_head.new.cells
    c.in_ok-floor.floor (length c.args.cells.now) (part_at P c.args.goal.base c.args.call.0 ∷ []) c.in_ok-floor.ensures.widened
    c.in_ok-floor.ensures.floor)
    c.settle_head.ensures.nodes
