use Rattle.std.proofs.Common.{[], sym, ◌∙◌}
use Rattle.and_workers.proofs.Working.{handed_at_work, same_at_work, some_holds, none_holds}
use Rattle.and_store.specs.Calls.{HandsOut}
use Rattle.and_workers.proofs.worker.Reducer+StoreCells+N.look_at_woken.Goals as goal

pub look-requires-clause-at_work : goal.look-requires-clause-at_work
look-requires-clause-at_work g c κs within =
    let P = g.N.Naming.program in
    let told = c.args.self.now.told in
    let waiting = c.args.self.now.suspended in
    let q = c.args.cells.pass in
    let r = c.woken-cells.result.0.pass in
    handed_at_work P told [] waiting c.args.shared.now.store.now.about.words c.in-Some.goal q r (c.woken-cells.ensures.store ∙ sym c.requires.store)
    (some_holds (λ goal. HandsOut P c.args.shared.now.store.now.about.words goal q r) c.woken-cells.result.1 c.in-Some.goal c.in-Some.is
    c.woken-cells.ensures.some)
    c.requires.at_work

pub look_at_next-requires-clause-at_work : goal.look_at_next-requires-clause-at_work
look_at_next-requires-clause-at_work g c κs within =
    let P = g.N.Naming.program in
    let told = c.args.self.now.told in
    let waiting = c.args.self.now.suspended in
    let q = c.args.cells.pass in
    let r = c.woken-cells.result.0.pass in
    same_at_work P told [] waiting q r (none_holds _ c.woken-cells.result.1 c.in-None.is c.woken-cells.ensures.none).1 c.requires.at_work
