use Rattle.std.proofs.Common.{rules, ◌≡◌, true, false, nat_eq}
use Rattle.std.specs.List.{list_any}
use Rattle.and_judging.proofs.Noticing.{noted_known, noted_new}
use Rattle.and_judging.proofs.sorting.note.Goals as goal

pub returns-in_ok-push : goal.returns-in_ok-push
returns-in_ok-push c =
    let none : list_any (λ y. nat_eq y c.args.variable) c.args.variables.now.items ≡ false = search rules in
    noted_new c.args.variable c.args.variables.now.items c.push.new.self.items none c.in_ok-push.ensures.ok

pub returns-else-not-contains : goal.returns-else-not-contains
returns-else-not-contains c =
    let some : list_any (λ y. nat_eq y c.args.variable) c.args.variables.now.items ≡ true = search rules in
    noted_known c.args.variable c.args.variables.now.items some
