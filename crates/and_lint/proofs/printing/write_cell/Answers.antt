use Rattle.std.proofs.Common.{List, subst}
use Rattle.std.proofs.lemmas.Result.{on_ok_weaker}
use Rattle.and_model.specs.Terms.{Term}
use Rattle.and_model.specs.Lines.{Bytes}
use Rattle.and_program.specs.Loaded.{program_of, skeleton_of}
use Rattle.and_program.specs.Skeletons.{Shape, node_term}
use Rattle.and_lint.specs.declared.printing.Task.{Task}
use Rattle.and_lint.specs.Printed.{HasPushed}
use Rattle.and_lint.proofs.printing.write_cell.Goals as goal

pub returns : goal.returns
returns c =
    let ss : List Shape = (skeleton_of c.args.loaded.now).nodes in
    let names : List Bytes = (program_of c.args.loaded.now).names in
    let t : Term = node_term ss c.args.node.0 in
    on_ok_weaker c.push_cell.result
    (λ p. (subst (λ (ks : List Task). HasPushed ss t ks c.push_cell.new.work.items) c.in_ok-push.ensures.items p, c.in_ok-append.ensures))
    c.push_cell.ensures
