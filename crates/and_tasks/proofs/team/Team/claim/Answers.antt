use Rattle.std.proofs.Common.{◌∙◌}
use Rattle.and_cells.specs.Ranges.{NamedProgram}
use Rattle.and_tasks.proofs.Sharing.{claimed_team, works_looked, works_moved, works_taken}
use Rattle.and_tasks.proofs.team.Team.claim.Goals as goal

pub invariant_of-self : goal.invariant_of-self
invariant_of-self g c =
    let same = claimed_team _ _ c.args.cell c.in-Open.serial c.look.new.pass c.claim.new.pass c.claim.result c.claim.ensures.taken c.claim.ensures.moved in
    record { number_is = same ∙ c.look.ensures.team ∙ c.args.self.now.number_is; left_shares = c.args.self.now.left_shares }

pub returns-in-Taken-clause-some : goal.returns-in-Taken-clause-some
returns-in-Taken-clause-some g c =
    let P : NamedProgram = g.N.Naming.program in
    let s = c.args.self.now in
    let tree = c.args.shared.now.tree.now in
    let took = c.claim.ensures.taken c.in-Taken.placed c.in-Taken.is in
    works_taken P tree c.args.cell c.in-Open.serial c.in-Taken.placed.branch c.look.new.pass c.claim.new.pass s.found s.stack.items
    (works_looked P tree c.args.cell _ s.pass c.look.new.pass s.found s.stack.items c.requires.works c.look.ensures) took.0 took.1

pub returns-in-Moved-clause-none : goal.returns-in-Moved-clause-none
returns-in-Moved-clause-none g c =
    let P : NamedProgram = g.N.Naming.program in
    let s = c.args.self.now in
    let tree = c.args.shared.now.tree.now in
    works_moved P tree c.args.cell c.in-Open.serial _ c.look.new.pass c.claim.new.pass s.found s.stack.items
    (works_looked P tree c.args.cell _ s.pass c.look.new.pass s.found s.stack.items c.requires.works c.look.ensures)
    (c.claim.ensures.moved c.in-Moved._seen c.in-Moved.is)

pub returns-in-Free-clause-none : goal.returns-in-Free-clause-none
returns-in-Free-clause-none g c =
    let s = c.args.self.now in
    works_looked g.N.Naming.program c.args.shared.now.tree.now c.args.cell _ s.pass c.look.new.pass s.found s.stack.items c.requires.works c.look.ensures

pub returns-in-Taking-clause-none : goal.returns-in-Taking-clause-none
returns-in-Taking-clause-none g c =
    let s = c.args.self.now in
    works_looked g.N.Naming.program c.args.shared.now.tree.now c.args.cell _ s.pass c.look.new.pass s.found s.stack.items c.requires.works c.look.ensures
