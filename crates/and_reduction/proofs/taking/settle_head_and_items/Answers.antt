use Rattle.std.proofs.Common.{◌++◌, List, [], ◌∷◌, sym, subst}
use Rattle.std.proofs.lemmas.Result.{on_ok_weaker}
use Rattle.and_model.specs.Programs.{clause_at}
use Rattle.and_model.specs.Solutions.{Solvable}
use Rattle.and_cells.specs.Meaning.{equations_of}
use Rattle.and_cells.specs.Seen.{word_at}
use Rattle.and_unify.specs.declared.pairs.Pair.{Pair}
use Rattle.and_unify.specs.Pairs.{equations_of_pairs}
use Rattle.and_branch_laws.specs.Reducing.{body_equations}
use Rattle.and_branch_laws.specs.Settling.{Settled}
use Rattle.and_branch_laws.specs.Variables.{placed}
use Rattle.and_step_laws.specs.Asking.{AreReady}
use Rattle.and_cells.specs.Parts.{part_at}
use Rattle.and_unify.specs.Places.{sides}
use Rattle.and_heads.specs.Calls.{call_and_head}
use Rattle.and_reduction.specs.Writes.{SetsNodes}
use Rattle.and_reduction.proofs.Writing.{head_asks, sets_through}
use Rattle.and_reduction.proofs.taking.settle_head_and_items.Goals as goal

pub settle_frame-requires-clause-ready : goal.settle_frame-requires-clause-ready
settle_frame-requires-clause-ready g c =
    subst (AreReady g.N.Naming.program c.args.cells.now c.args.floor) (sym c.in_ok-ask_call.ensures) c.requires.ready

pub returns-clause-solved : goal.returns-clause-solved
returns-clause-solved g c = λ e.
    let P = g.N.Naming.program in
    let row = c.args.cells.now in
    subst (λ (ps : List Pair). Settled P row c.settle_frame.new.cells
    (equations_of_pairs P (word_at row) ps ++ body_equations (placed c.args.floor) (clause_at P.program c.args.clause.0).body))
    c.in_ok-ask_call.ensures (c.settle_frame.ensures.solved e)

pub returns-clause-unsolved : goal.returns-clause-unsolved
returns-clause-unsolved g c = λ e.
    let P = g.N.Naming.program in
    let row = c.args.cells.now in
    subst (λ (ps : List Pair). Solvable (equations_of P row
    ++ (equations_of_pairs P (word_at row) ps ++ body_equations (placed c.args.floor) (clause_at P.program c.args.clause.0).body)) → ⊥)
    c.in_ok-ask_call.ensures (c.settle_frame.ensures.unsolved e)

pub returns-clause-nodes : goal.returns-clause-nodes
returns-clause-nodes g c =
    let P = g.N.Naming.program in
    let row = c.args.cells.now in
    on_ok_weaker c.settle_frame.result
    (λ s. sets_through P row c.settle_frame.new.cells c.args.floor (part_at P c.args.base c.args.call.0 ∷ [])
    (call_and_head P c.args.base c.args.call.0 c.args.floor c.args.head.0) (head_asks P c.args.base c.args.call.0 c.args.floor c.args.head.0)
    (subst (λ (ps : List Pair). SetsNodes P row c.settle_frame.new.cells c.args.floor (sides ps)) c.in_ok-ask_call.ensures s))
    c.settle_frame.ensures.nodes
