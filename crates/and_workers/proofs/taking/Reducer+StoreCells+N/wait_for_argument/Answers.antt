use Rattle.std.proofs.Common.{◌<◌, [], ◌∙◌, subst}
use Rattle.and_store.specs.Passes.{StoreId}
use Rattle.and_store.specs.Worked.{seen_by}
use Rattle.and_branch_laws.proofs.Loading.{falls_in}
use Rattle.and_workers.proofs.Waited.{awaited_is_low}
use Rattle.and_workers.proofs.Working.{reads_at_work}
use Rattle.and_workers.proofs.taking.Reducer+StoreCells+N.wait_for_argument.Goals as goal

pub wait-requires-clause-cell : goal.wait-requires-clause-cell
wait-requires-clause-cell g c =
    let P = g.N.Naming.program in
    let p = c.args.cells.pass in
    let q = c.waits_on.new.cells.pass in
    let work = reads_at_work P c.args.self.now.told [] c.args.self.now.suspended p q c.waits_on.ensures.grew c.waits_on.ensures.reads c.requires.at_work in
    let low = awaited_is_low P (falls_in P c.args.shared.now.loaded.now c.requires.program c.skeleton_is_of_the_program.ensures.skeleton.0)
    p.store.about.words c.args.goal (seen_by p) (seen_by q) c.in-Some.cell c.waits_on.ensures.reads work.fit
    (c.waits_on.ensures.some c.in-Some.cell c.in-Some.is) in
    subst (λ (s : StoreId). c.in-Some.cell < s.about.words) (c.waits_on.ensures.over ∙ c.requires.store) low

pub wait-requires-clause-at_work : goal.wait-requires-clause-at_work
wait-requires-clause-at_work g c =
    reads_at_work g.N.Naming.program c.args.self.now.told [] c.args.self.now.suspended c.args.cells.pass c.waits_on.new.cells.pass
    c.waits_on.ensures.grew c.waits_on.ensures.reads c.requires.at_work

pub returns-in-None-clause-turned : goal.returns-in-None-clause-turned
returns-in-None-clause-turned g c =
    reads_at_work g.N.Naming.program c.args.self.now.told [] c.args.self.now.suspended c.args.cells.pass c.waits_on.new.cells.pass
    c.waits_on.ensures.grew c.waits_on.ensures.reads c.requires.at_work
