use Rattle.std.proofs.Common.{◌++◌, []}
use Rattle.and_cells.specs.Rows.{plain}
use Rattle.and_unify.specs.Running.{arguments_of_both}
use Rattle.and_heads.specs.Parts.{both_of, arguments_of_parts}
use Rattle.and_heads.proofs.Meeting.{parts_after}
use Rattle.and_heads.proofs.entering.enter.Goals as goal

pub enter_parts-requires-clause-shape : goal.enter_parts-requires-clause-shape
enter_parts-requires-clause-shape g c = c.in-At.ensures.begins.0

pub enter_parts-requires-clause-shapes : goal.enter_parts-requires-clause-shapes
enter_parts-requires-clause-shapes g c = c.in-At.ensures.begins.1

pub returns-in-At-clause-comes : goal.returns-in-At-clause-comes
returns-in-At-clause-comes g c =
    let P = g.N.Naming.program in
    parts_after P (plain c.args.cells.now) (plain c.begin.new.cells) (plain c.enter_parts.new.cells) c.args.pairs.now
    (arguments_of_both P (both_of c.in-At.part) ++ arguments_of_parts P c.begin.new.parts.items) [] c.args.bound.now.items c.begin.new.bound.items
    c.enter_parts.new.bound.items c.enter_parts.result c.in-At.ensures.begins.2 c.enter_parts.ensures.comes

pub returns-in-At-clause-owed : goal.returns-in-At-clause-owed
returns-in-At-clause-owed g c = λ owed. c.enter_parts.ensures.owed (c.begin.ensures.owed owed)

pub returns-in-Ended-clause-comes : goal.returns-in-Ended-clause-comes
returns-in-Ended-clause-comes g c = c.in-Ended.ensures.begins

pub returns-in-Ended-clause-owed : goal.returns-in-Ended-clause-owed
returns-in-Ended-clause-owed g c = c.begin.ensures.owed
