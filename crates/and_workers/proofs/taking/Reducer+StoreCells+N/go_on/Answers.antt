use Rattle.std.proofs.Common.{◌≡◌, true, false, Ok, sym, subst}
use Rattle.and_workers.specs.AtWork.{IsNoted, IsTurned}
use Rattle.and_workers.proofs.taking.Reducer+StoreCells+N.go_on.Goals as goal

pub give_up-requires-clause-live : goal.give_up-requires-clause-live
give_up-requires-clause-live g c =
    let s = c.args.self.now in
    let is : c.args.noted ≡ Ok false = let was = c.in-Ok-false.is in let test = c.in-Ok-false.field-0-test in cc in
    let noted = subst (λ r. IsNoted g.N.Naming.program s.told s.pairs s.suspended c.args.cells.pass r) is c.requires.noted in
    (noted.0, noted.1)

pub give_up-requires-clause-done : goal.give_up-requires-clause-done
give_up-requires-clause-done g c =
    let s = c.args.self.now in
    let is : c.args.noted ≡ Ok false = let was = c.in-Ok-false.is in let test = c.in-Ok-false.field-0-test in cc in
    (subst (λ r. IsNoted g.N.Naming.program s.told s.pairs s.suspended c.args.cells.pass r) is c.requires.noted).2

pub give_up-requires-clause-kills : goal.give_up-requires-clause-kills
give_up-requires-clause-kills g c =
    let s = c.args.self.now in
    let is : c.args.noted ≡ Ok false = let was = c.in-Ok-false.is in let test = c.in-Ok-false.field-0-test in cc in
    (subst (λ r. IsNoted g.N.Naming.program s.told s.pairs s.suspended c.args.cells.pass r) is c.requires.noted).3

pub solve-cells-requires-clause-at_work : goal.solve-cells-requires-clause-at_work
solve-cells-requires-clause-at_work g c κs within =
    let s = c.args.self.now in
    let is : c.args.noted ≡ Ok true = let was = c.in-Ok-true.is in let test = c.in-Ok-true.field-0-test in cc in
    (subst (λ r. IsNoted g.N.Naming.program s.told s.pairs s.suspended c.args.cells.pass r) is c.requires.noted).0

pub solve-cells-requires-clause-whole : goal.solve-cells-requires-clause-whole
solve-cells-requires-clause-whole g c κs within =
    let s = c.args.self.now in
    let is : c.args.noted ≡ Ok true = let was = c.in-Ok-true.is in let test = c.in-Ok-true.field-0-test in cc in
    (subst (λ r. IsNoted g.N.Naming.program s.told s.pairs s.suspended c.args.cells.pass r) is c.requires.noted).1

pub returns-in-Ok-true-clause-turned : goal.returns-in-Ok-true-clause-turned
returns-in-Ok-true-clause-turned g c =
    let P = g.N.Naming.program in
    let same = c.put_body.ensures in
    subst (λ t. IsTurned P t c.put_body.new.self.suspended c.solve-cells.result.0.pass c.solve-cells.result.1) (sym same.0)
    (subst (λ ws. IsTurned P c.solve-cells.new.self.told ws c.solve-cells.result.0.pass c.solve-cells.result.1) (sym same.1) c.solve-cells.ensures.turned)
