use Rattle.std.proofs.Common.{subst}
use Rattle.and_heads.specs.Owing.{AreOwed}
use Rattle.and_heads.proofs.Noting.{all_ended, all_but_one}
use Rattle.and_heads.proofs.ending.owed_end.Goals as goal

pub returns-in-Nothing-clause-ends : goal.returns-in-Nothing-clause-ends
returns-in-Nothing-clause-ends g c = λ _.
    let owed = subst (AreOwed g.N.Naming.program c.args.floor c.args.cells.now c.args.bound.now) c.in-Nothing.is c.requires.owed in
    all_ended g.N.Naming.program c.args.floor c.args.cells.now c.args.bound.now owed

pub ends_at_look-requires-clause-in_row : goal.ends_at_look-requires-clause-in_row
ends_at_look-requires-clause-in_row g c =
    (subst (AreOwed g.N.Naming.program c.args.floor c.args.cells.now c.args.bound.now) c.in-One.is c.requires.owed).0

pub returns-then-ends_at_look-clause-ends : goal.returns-then-ends_at_look-clause-ends
returns-then-ends_at_look-clause-ends g c = λ is.
    let owed = subst (AreOwed g.N.Naming.program c.args.floor c.args.cells.now c.args.bound.now) c.in-One.is c.requires.owed in
    all_but_one g.N.Naming.program c.args.floor c.args.cells.now c.args.bound.now c.in-One.cell owed.1 (c.ends_at_look.ensures is)

pub returns-else-ends_at_look-clause-ends : goal.returns-else-ends_at_look-clause-ends
returns-else-ends_at_look-clause-ends g c = λ is.
    let owed = subst (AreOwed g.N.Naming.program c.args.floor c.args.cells.now c.args.bound.now) c.in-One.is c.requires.owed in
    all_but_one g.N.Naming.program c.args.floor c.args.cells.now c.args.bound.now c.in-One.cell owed.1 (c.one_ends.ensures is)
