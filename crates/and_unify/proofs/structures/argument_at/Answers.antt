use Rattle.and_cells.specs.Parts.{named}
use Rattle.and_unify.proofs.TurnArguments.{argument_found}
use Rattle.and_unify.proofs.structures.argument_at.Goals as goal

pub returns : goal.returns
returns c =
    argument_found (named c.args.loaded.now) c.args.whole.node c.argument.result c.args.whole.base c.args.place c.resolve.result c.requires.place
    c.argument.ensures.node c.resolve.ensures
