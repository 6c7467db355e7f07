use Rattle.and_tasks.proofs.Topped.{next_had}
use Rattle.and_tasks.proofs.stack.Level.next_in_hand.Goals as goal

pub returns-clause-next : goal.returns-clause-next
returns-clause-next g c =
    let common = c.lesser-common in
    let told = c.in_ok-told.ensures in
    let next = c.next.ensures in
    next_had g.N.Naming.program c.args.self.now c.next.new.self c.args.hand.now.common
    (record { branch = c.next.new.branch; told = c.in_ok-told.told; common = common.result }) c.next.result next.child next.back told.length told.left
    common.ensures.first common.ensures.second next.same
