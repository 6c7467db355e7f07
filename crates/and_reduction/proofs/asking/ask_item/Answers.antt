use Rattle.std.proofs.Common.{◌∷◌, ◌++◌, [], sym, subst}
use Rattle.and_program.specs.Items.{node_item}
use Rattle.and_program.specs.Skeletons.{item_of}
use Rattle.and_cells.specs.Seen.{word_at}
use Rattle.and_unify.specs.Pairs.{equations_of_pairs}
use Rattle.and_branch_laws.specs.Reducing.{body_equations}
use Rattle.and_branch_laws.specs.Variables.{placed}
use Rattle.and_step_laws.specs.Asking.{Ask, CanBeAsked}
use Rattle.and_reduction.proofs.asking.ask_item.Goals as goal

pub ask_equal-requires-clause-item : goal.ask_equal-requires-clause-item
ask_equal-requires-clause-item g c =
    subst (λ i. CanBeAsked g.N.Naming.program c.args.cells.now c.args.floor (node_item i)) c.in-Equal.is c.requires.item

pub returns-in_ok-ask_equal-in-Equal-clause-asked : goal.returns-in_ok-ask_equal-in-Equal-clause-asked
returns-in_ok-ask_equal-in-Equal-clause-asked g c = λ e.
    let P = g.N.Naming.program in
    let row = c.args.cells.now in
    let floor = c.args.floor in
    subst (λ i. Ask P row floor c.ask_equal.new.pairs (equations_of_pairs P (word_at row) c.args.pairs.now
    ++ body_equations (placed floor) (item_of P.skeleton.nodes (node_item i) ∷ []))) (sym c.in-Equal.is)
    c.in_ok-ask_equal-in-Equal.ensures.asked
