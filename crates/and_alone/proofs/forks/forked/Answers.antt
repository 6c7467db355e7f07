use Rattle.std.proofs.Common.{◌++◌, ◌∙◌, ap, subst}
use Rattle.and_model.specs.Lines.{Bytes}
use Rattle.and_model.specs.Output.{complete, last_lines}
use Rattle.and_program.specs.Loaded.{program_of}
use Rattle.and_forks.specs.Trees.{IsForkTree}
use Rattle.and_alone.proofs.ForkedTrees.{forked_whole}
use Rattle.and_alone.proofs.forks.forked.Goals as goal

pub returns-in-Whole : goal.returns-in-Whole
returns-in-Whole g c =
    let P = program_of c.args.loaded.now in
    let (lines, tree, are) = subst (λ w. IsForkTree P c.args.limit w) c.in-Whole.is c.in_ok-walk.ensures in
    forked_whole P c.args.limit lines c.append.new.self tree
    (c.in_ok-append-in-Whole.ensures ∙ ap (λ (bs : Bytes). bs ++ last_lines complete) are.text)
    c.in-Whole.answers c.in-Whole.floundered c.status_of_tree-status.result c.status_of_tree-status.ensures are.answers are.floundered

pub returns : goal.returns
returns g c =
    let P = program_of c.args.loaded.now in
    let (cut, is, over) = subst (λ w. IsForkTree P c.args.limit w) c.in-Cut.is c.in_ok-walk.ensures in
    record { cut = cut; over = over; written = c.in_ok-of-in-Cut.ensures }
