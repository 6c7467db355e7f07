use Rattle.and_program.specs.Loaded.{skeleton_of}
use Rattle.and_lint.proofs.Growing.{item_gained}
use Rattle.and_lint.proofs.bodies.add_item_itself.Goals as goal

pub returns : goal.returns
returns c =
    item_gained (skeleton_of c.args.loaded.now).nodes _ _ c.args.item _ c.requires c.in_ok-push.ensures.items c.in_ok-push_item_variables.ensures
