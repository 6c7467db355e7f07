use Rattle.std.proofs.Common.{ap}
use Rattle.std.specs.Prelude.{Bool, Ok}
use Rattle.and_unify.proofs.SettlingGiven.{given_is_settled, given_names_no_half, none_is_new}
use Rattle.and_unify.proofs.SettlingDone.{unsettled}
use Rattle.and_unify.proofs.settling.settle.Goals as goal

pub settle_further-requires-clause-settled : goal.settle_further-requires-clause-settled
settle_further-requires-clause-settled g c =
    let laws = c.laws_of_rows.ensures in
    given_is_settled g.N.Naming.program c.args.cells.now laws.falls laws.sound (c.in-Ok-true.ensures.cells (ap (λ (b : Bool). Ok b) c.in-Ok-true.field-0-test))

pub settle_further-requires-clause-no_half : goal.settle_further-requires-clause-no_half
settle_further-requires-clause-no_half g c =
    let laws = c.laws_of_rows.ensures in
    given_names_no_half g.N.Naming.program c.args.cells.now c.args.pairs.now laws.falls laws.sound c.requires.in_range
    (c.in-Ok-true.ensures.sides (ap (λ (b : Bool). Ok b) c.in-Ok-true.field-0-test))

pub settle_further-requires-clause-new : goal.settle_further-requires-clause-new
settle_further-requires-clause-new g c =
    none_is_new g.N.Naming.program c.args.cells.now c.args.pairs.now c.len-floor.result c.laws_of_rows.ensures.sound c.requires.in_range
    c.len-floor.ensures.value

pub returns-in-Ok-true : goal.returns-in-Ok-true
returns-in-Ok-true g c = c.settle_further.ensures.settles

pub returns-in-Ok-false : goal.returns-in-Ok-false
returns-in-Ok-false g c =
    unsettled g.N.Naming.program c.args.cells.now c.args.pairs.now _ (λ is. absurd (cc))
    (λ is. c.in-Ok-false.ensures.no_solution (ap (λ (b : Bool). Ok b) c.in-Ok-false.field-0-test))

pub returns-in-Err : goal.returns-in-Err
returns-in-Err g c = unsettled g.N.Naming.program c.args.cells.now c.args.pairs.now _ (λ is. absurd (cc)) (λ is. absurd (cc))
