use Rattle.std.proofs.Common.{refl, arith}
use Rattle.and_cells.specs.Parts.{named}
use Rattle.and_branch_laws.proofs.Loading.{loaded_is}
use Rattle.and_row_check.proofs.ReadyGoals.{item_is, in_range}
use Rattle.and_row_check.proofs.readiness.item_within.Goals as goal

pub returns-clause-item : goal.returns-clause-item
returns-clause-item c = item_is (named c.args.loaded.now) c.args.goal c.items-items.result.now c.items-items.ensures.items (omega arith) _

pub returns-clause-in_range : goal.returns-clause-in_range
returns-clause-in_range c =
    let P = named c.args.loaded.now in
    let s = c.skeleton_is_of_the_program.ensures in
    let facts = loaded_is P c.args.loaded.now refl s.skeleton s.own_variables s.few in
    let weight = c.weight-weight.ensures in
    in_range P c.args.goal c.items-items.result.now c.items-items.ensures.items (omega arith) facts (omega (arith, c.clause_count.ensures.count))
    c.args.words (omega (arith, weight)) c.requires
