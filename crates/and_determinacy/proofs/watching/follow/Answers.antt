use Rattle.std.proofs.Common.{◌<◌, sym, subst, length}
use Rattle.std.specs.Prelude.{OnOk}
use Rattle.and_model.specs.declared.reference.Ref.{Ref}
use Rattle.and_cells.specs.Ranges.{NamedProgram, IsInRange}
use Rattle.and_determinacy.specs.Watching.{IsFollowed}
use Rattle.and_determinacy.proofs.Watched.{number_holds, holds_nothing}
use Rattle.and_determinacy.proofs.watching.follow.Goals as goal

pub put_parts-requires-clause-there : goal.put_parts-requires-clause-there
put_parts-requires-clause-there g c =
    let P = g.N.Naming.program in
    let fits = subst (IsInRange P (length c.args.cells.now)) c.in-Node.is c.requires.in_range in
    subst (λ (Q : NamedProgram). c.in-Node.node.0 < length Q.skeleton.nodes) c.requires.program fits.0.there

pub put_parts-requires-clause-base : goal.put_parts-requires-clause-base
put_parts-requires-clause-base g c =
    let P = g.N.Naming.program in
    let fits = subst (IsInRange P (length c.args.cells.now)) c.in-Node.is c.requires.in_range in
    fits.0.base_below

pub put_parts-requires-clause-in_range : goal.put_parts-requires-clause-in_range
put_parts-requires-clause-in_range g c = subst (IsInRange g.N.Naming.program (length c.args.cells.now)) c.in-Node.is c.requires.in_range

pub returns-in-Node : goal.returns-in-Node
returns-in-Node g c =
    subst (λ (r : Ref). OnOk c.put_parts.result (IsFollowed g.N.Naming.program c.args.cells.now c.args.floor c.args.begun r c.args.visits.now.items
    c.put_parts.new.visits.items c.args.out.now.items c.put_parts.new.out.items)) (sym c.in-Node.is) c.put_parts.ensures

pub returns-in-Number : goal.returns-in-Number
returns-in-Number g c =
    let P = g.N.Naming.program in
    let row = c.args.cells.now in
    holds_nothing P row c.args.floor c.args.begun c.args.at c.args.visits.now.items c.args.out.now.items
    (λ n held. number_holds P row c.in-Number.field-0 c.args.at n c.in-Number.is held)
