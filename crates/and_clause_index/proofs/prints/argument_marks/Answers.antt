use Rattle.std.proofs.Common.{◌<◌, ◌≤◌, ap, ◌∙◌, arith}
use Rattle.and_program.specs.Loaded.{skeleton_of}
use Rattle.and_program.specs.Shown.{count_of, shown_term}
use Rattle.and_program.specs.Skeletons.{node_term}
use Rattle.and_clause_index.specs.Prints.{mark, argument_kind}
use Rattle.and_clause_index.proofs.Printing.{marks_there, marks_past}
use Rattle.and_clause_index.proofs.prints.argument_marks.Goals as goal

pub returns-then-place-count : goal.returns-then-place-count
returns-then-place-count c =
    let own = node_term (skeleton_of c.args.loaded.now).nodes c.args.node.0 in
    let counted = c.count_in-count.ensures ∙ ap count_of c.kind.ensures.term in
    let past : count_of (shown_term own) ≤ c.args.place = omega arith in
    c.none.ensures ∙ marks_past own c.args.place past

pub returns : goal.returns
returns c =
    let own = node_term (skeleton_of c.args.loaded.now).nodes c.args.node.0 in
    let counted = c.count_in-count.ensures ∙ ap count_of c.kind.ensures.term in
    let low : c.args.place < count_of (shown_term own) = omega arith in
    let term = c.argument-argument.ensures.term in
    marks_there c.node_mark-own.result c.argument_mark-first.result c.argument_mark-second.result own c.args.place low
    (c.node_mark-own.ensures ∙ ap (λ t. mark (shown_term t)) term)
    (c.argument_mark-first.ensures ∙ ap (λ t. mark (argument_kind t 0)) term)
    (c.argument_mark-second.ensures ∙ ap (λ t. mark (argument_kind t 1)) term)
