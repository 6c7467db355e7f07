use Rattle.std.proofs.Common.{sym, ap, subst}
use Rattle.and_model.specs.Store.{Pass}
use Rattle.and_store.specs.Calls.{FindsSet}
use Rattle.and_workers.proofs.calls.hang.Goals as goal

pub returns-clause-bound : goal.returns-clause-bound
returns-clause-bound g c = λ to back is.
    let P = g.N.Naming.program in
    let a = c.args.store.now.about in
    let b = c.hang-hung.ensures.bound to back is in
    let found : FindsSet P a c.args.cell to c.args.cells.pass.pass c.hang-hung.new.pass.pass =
    subst (λ (p : Pass). FindsSet P a c.args.cell to p c.hang-hung.new.pass.pass) (ap (λ p. p.pass) c.into_pass-pass.ensures) b.2 in
    (b.0, subst (λ (p : Pass). FindsSet P a c.args.cell to c.args.cells.pass.pass p) (sym (ap (λ p. p.pass) c.new.ensures.1)) found)
