use Rattle.std.proofs.Common.{rules}
use Rattle.and_program.specs.Loaded.{skeleton_of}
use Rattle.and_program.specs.declared.item.ItemNode.TheVariants.{Call}
use Rattle.and_term_rows.proofs.Structures.{right_is_there}
use Rattle.and_term_rows.proofs.frames.right_side.Goals as goal

pub returns-in-Equal : goal.returns-in-Equal
returns-in-Equal c =
    right_is_there (skeleton_of c.args.loaded.now).nodes 0 c.args.place c.items-items.result.now (Call (record { 0 = 0 })) c.in-Equal.left c.in-Equal.right
    c.items-items.ensures.there (search rules)
    c.in-Equal.is
