use Rattle.std.proofs.Common.{[], sym, ◌∙◌, subst}
use Rattle.and_clause_index.specs.Selecting.{AreLeft}
use Rattle.and_store.specs.Worked.{seen_by}
use Rattle.and_workers.proofs.Waited.{one_of}
use Rattle.and_workers.proofs.Working.{reads_at_work}
use Rattle.and_workers.proofs.taking.Reducer+StoreCells+N.look_at_call.Goals as goal

pub give_up-requires-clause-live : goal.give_up-requires-clause-live
give_up-requires-clause-live g c = (
  c.requires.at_work.live,
  (reads_at_work g.N.Naming.program c.args.self.now.told [] c.args.self.now.suspended c.args.cells.pass c.select-selected.new.cells.pass
      c.select-selected.ensures.grew c.select-selected.ensures.reads c.requires.at_work).no_fail,
)

pub give_up-requires-clause-done : goal.give_up-requires-clause-done
give_up-requires-clause-done g c =
    (reads_at_work g.N.Naming.program c.args.self.now.told [] c.args.self.now.suspended c.args.cells.pass c.select-selected.new.cells.pass
    c.select-selected.ensures.grew c.select-selected.ensures.reads c.requires.at_work).done.acted

pub reduce-requires-clause-at_work : goal.reduce-requires-clause-at_work
reduce-requires-clause-at_work g c κs within =
    reads_at_work g.N.Naming.program c.args.self.now.told [] c.args.self.now.suspended c.args.cells.pass c.select-selected.new.cells.pass
    c.select-selected.ensures.grew c.select-selected.ensures.reads c.requires.at_work

pub reduce-requires-clause-sole : goal.reduce-requires-clause-sole
reduce-requires-clause-sole g c κs within =
    let P = g.N.Naming.program in
    let left = c.select-selected.ensures.left c.in-Clauses.is in
    subst (AreLeft P (seen_by c.select-selected.new.cells.pass) c.args.goal)
    (one_of c.select-selected.new.out c.at-clause.result.now (sym c.len.ensures ∙ c.in-1.is) c.at-clause.ensures) left

pub wait_for_argument-requires-clause-at_work : goal.wait_for_argument-requires-clause-at_work
wait_for_argument-requires-clause-at_work g c κs within =
    reads_at_work g.N.Naming.program c.args.self.now.told [] c.args.self.now.suspended c.args.cells.pass c.select-selected.new.cells.pass
    c.select-selected.ensures.grew c.select-selected.ensures.reads c.requires.at_work

pub returns-in-Unsure-clause-turned : goal.returns-in-Unsure-clause-turned
returns-in-Unsure-clause-turned g c =
    reads_at_work g.N.Naming.program c.args.self.now.told [] c.args.self.now.suspended c.args.cells.pass c.select-selected.new.cells.pass
    c.select-selected.ensures.grew c.select-selected.ensures.reads c.requires.at_work
