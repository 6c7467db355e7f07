use Rattle.std.proofs.Common.{◌≡◌, length, subst}
use Rattle.std.specs.Prelude.{IfSome}
use Rattle.and_cells.specs.Rows.{plain}
use Rattle.and_cells.proofs.Chains.{reads_nothing}
use Rattle.std.proofs.Common.{refl}
use Rattle.and_heads.specs.Parts.{HasShape, both_of}
use Rattle.and_heads.proofs.Parting.{whole_put}
use Rattle.and_heads.proofs.entering.enter_pair.Goals as goal

pub returns-in-Ok-clause-meets : goal.returns-in-Ok-clause-meets
returns-in-Ok-clause-meets g c =
    let P = g.N.Naming.program in
    let s = plain c.args.cells.now in
    let whole = subst (λ o. IfSome o (λ whole. (both_of whole ≡ c.args.pair) × HasShape P (length c.args.cells.now) whole)) c.in-Some.is
    c.whole_of.ensures in
    whole_put P s c.args.pair c.in-Some.whole c.args.parts.now.items c.push.new.self.items c.args.bound.now.items whole.0 whole.1 c.in-Ok.ensures.items

pub returns-in-Err-clause-meets : goal.returns-in-Err-clause-meets
returns-in-Err-clause-meets g c = (reads_nothing (plain c.args.cells.now), refl)
