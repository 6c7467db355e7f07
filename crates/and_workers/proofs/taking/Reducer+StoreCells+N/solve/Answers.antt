use Rattle.std.proofs.Common.{[], ◌++◌, List, refl, sym, ◌∙◌, subst}
use Rattle.std.proofs.lemmas.List.{append-nil}
use Rattle.and_unify.specs.declared.pairs.Pair.{Pair}
use Rattle.and_branch_laws.proofs.Lists.{all_right}
use Rattle.and_cells.specs.Ranges.{IsInRange}
use Rattle.and_cells.specs.Seen.{IsWrittenIfNumber}
use Rattle.and_store.specs.Worked.{seen_by}
use Rattle.and_handed.specs.Handed.{HasDone}
use Rattle.and_workers.proofs.Solving.{still_done, never_failed, none_solves, all_same, some_left, at_work, done_telling}
use Rattle.and_workers.proofs.taking.Reducer+StoreCells+N.solve.Goals as goal

pub unify-requires-clause-in_range : goal.unify-requires-clause-in_range
unify-requires-clause-in_range g c =
    let P = g.N.Naming.program in
    let words = c.args.cells.pass.store.about.words in
    all_right (λ (e : Pair). IsInRange P words e.left × IsInRange P words e.right) c.args.self.now.told.pairs c.args.self.now.pairs
    c.requires.at_work.done.pairs_left.in_range

pub unify-requires-clause-written : goal.unify-requires-clause-written
unify-requires-clause-written g c =
    let s = seen_by c.args.cells.pass in
    all_right (λ (e : Pair). IsWrittenIfNumber s e.left × IsWrittenIfNumber s e.right) c.args.self.now.told.pairs c.args.self.now.pairs
    c.requires.at_work.done.pairs_left.written

pub give_up-requires-clause-live : goal.give_up-requires-clause-live
give_up-requires-clause-live g c = (
  c.requires.at_work.live,
  never_failed g.N.Naming.program c.args.self.now.told c.args.self.now.pairs c.unify.new.pairs c.args.self.now.suspended c.args.cells.pass
      c.unify.new.cells.pass c.unify.result c.requires.at_work c.unify.ensures.grew c.unify.ensures.unifies,
)

pub give_up-requires-clause-done : goal.give_up-requires-clause-done
give_up-requires-clause-done g c =
    (still_done g.N.Naming.program c.args.self.now.told c.args.self.now.pairs c.unify.new.pairs c.args.self.now.suspended c.args.cells.pass
    c.unify.new.cells.pass c.unify.result c.requires.at_work c.unify.ensures.grew c.unify.ensures.unifies).acted

pub give_up-requires-clause-kills : goal.give_up-requires-clause-kills
give_up-requires-clause-kills g c =
    none_solves g.N.Naming.program c.args.self.now.told c.args.self.now.pairs c.unify.new.pairs c.args.self.now.suspended c.args.cells.pass
    c.unify.new.cells.pass c.unify.result c.requires.at_work c.unify.ensures.grew c.unify.ensures.unifies c.in-Apart.left c.in-Apart.right c.in-Apart.is

pub returns-in-Same-clause-turned : goal.returns-in-Same-clause-turned
returns-in-Same-clause-turned g c =
    let P = g.N.Naming.program in
    let told = c.args.self.now.told in
    let todo = c.args.self.now.pairs in
    let q = c.unify.new.cells.pass in
    at_work P told todo c.unify.new.pairs c.args.self.now.suspended c.args.cells.pass q c.unify.result c.requires.at_work c.unify.ensures.grew
    c.unify.ensures.unifies told refl
    (all_same P told todo c.unify.new.pairs c.args.self.now.suspended c.args.cells.pass q c.unify.result c.requires.at_work c.unify.ensures.grew
    c.unify.ensures.unifies c.requires.whole c.in-Same.is)

pub returns-in-Ok-clause-turned : goal.returns-in-Ok-clause-turned
returns-in-Ok-clause-turned g c =
    let P = g.N.Naming.program in
    let told = c.args.self.now.told in
    let todo = c.args.self.now.pairs in
    let left = c.unify.new.pairs in
    let all = c.add_pairs.new.all in
    let q = c.unify.new.cells.pass in
    let done : HasDone P told (told.pairs ++ left) q =
    some_left P told todo left c.args.self.now.suspended c.args.cells.pass q c.unify.result c.requires.at_work c.unify.ensures.grew
    c.unify.ensures.unifies c.requires.whole c.in-PutOff.is in
    at_work P told todo left c.args.self.now.suspended c.args.cells.pass q c.unify.result c.requires.at_work c.unify.ensures.grew
    c.unify.ensures.unifies (record told { pairs = all }) refl
    (done_telling P told all q (all ++ []) (subst (λ (ps : List Pair). HasDone P told ps q) (sym c.in-Ok.ensures ∙ sym (append-nil all)) done))
