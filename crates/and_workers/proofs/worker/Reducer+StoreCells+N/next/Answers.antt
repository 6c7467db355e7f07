use Rattle.std.proofs.Common.{◌<◌, List, [], subst, sym}
use Rattle.and_workers.specs.Waiting.{Waiting}
use Rattle.and_workers.specs.AtWork.{IsAtWork}
use Rattle.and_handed.specs.declared.told.HandedOn.{HandedOn}
use Rattle.and_workers.proofs.Working.{reads_at_work, waits_fewer, woken_leaves}
use Rattle.and_store.specs.Worked.{seen_by}
use Rattle.and_workers.proofs.worker.Reducer+StoreCells+N.next.Goals as goal

pub returns-in-None-clause-at_work : goal.returns-in-None-clause-at_work
returns-in-None-clause-at_work g c =
    let P = g.N.Naming.program in
    let p = c.args.cells.now.pass in
    let q = c.woken.new.cells.pass in
    let w = c.woken.ensures in
    let told = c.take.new.self.told in
    let waiting = c.take.new.self.suspended in
    let work =
    subst (λ (t : HandedOn). IsAtWork P t [] waiting p) (sym c.take.ensures.0)
    (subst (λ (ws : List Waiting). IsAtWork P c.args.self.now.told [] ws p) (sym c.take.ensures.1) c.requires) in
    waits_fewer P told [] waiting c.woken.new.self q
    (woken_leaves (λ (w : Waiting). w.cell < q.store.about.words) P c.woken.result waiting c.woken.new.self (seen_by p) (seen_by q) w.woken w.unchanged)
    (reads_at_work P told [] waiting p q w.grew w.reads work)
