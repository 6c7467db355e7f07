use Rattle.std.proofs.Common.{◌<◌, ◌≤◌, sym, ap, ◌∙◌, arith}
use Rattle.and_program.specs.Loaded.{skeleton_of}
use Rattle.and_program.specs.Shown.{count_of, shown_term}
use Rattle.and_program.specs.Skeletons.{node_term}
use Rattle.and_clause_index.specs.Prints.{mark}
use Rattle.and_clause_index.proofs.Printing.{argument_there, argument_past}
use Rattle.and_clause_index.proofs.prints.argument_mark.Goals as goal

pub returns-then-place-count : goal.returns-then-place-count
returns-then-place-count c =
    let own = node_term (skeleton_of c.args.loaded.now).nodes c.args.node.0 in
    let counted = c.count_in-count.ensures ∙ ap count_of c.kind.ensures.term in
    let past : count_of (shown_term own) ≤ c.args.place = omega arith in
    ap mark (sym (argument_past own c.args.place past))

pub returns : goal.returns
returns c =
    let own = node_term (skeleton_of c.args.loaded.now).nodes c.args.node.0 in
    let counted = c.count_in-count.ensures ∙ ap count_of c.kind.ensures.term in
    let low : c.args.place < count_of (shown_term own) = omega arith in
    c.node_mark.ensures ∙ ap mark (ap shown_term c.argument.ensures.term ∙ sym (argument_there own c.args.place low))
