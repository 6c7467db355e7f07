use Rattle.std.proofs.Common.{◌<◌, sym, subst, length}
use Rattle.std.specs.Prelude.{OnOk}
use Rattle.and_model.specs.declared.reference.Ref.{Ref}
use Rattle.and_model.specs.declared.reference.Ref.TheVariants.{Node}
use Rattle.and_arith.proofs.Stepping.{on_both}
use Rattle.and_cells.specs.Ranges.{NamedProgram, IsInRange}
use Rattle.and_determinacy.specs.Watching.{IsFollowed, IsPutIfParted}
use Rattle.and_determinacy.proofs.Watched.{number_holds, holds_nothing, structure_put}
use Rattle.and_determinacy.proofs.watching.follow_part.Goals as goal

pub put_structure-requires : goal.put_structure-requires
put_structure-requires g c =
    let P = g.N.Naming.program in
    let fits = subst (IsInRange P (length c.args.cells.now)) c.in-Node.is c.requires.in_range in
    subst (λ (Q : NamedProgram). c.in-Node.node.0 < length Q.skeleton.nodes) c.requires.program fits.0.there

pub returns-in-Node : goal.returns-in-Node
returns-in-Node g c =
    let P = g.N.Naming.program in
    let row = c.args.cells.now in
    let visits = c.args.visits.now.items in
    let new = c.put_structure.new.visits.items in
    let listed = c.args.out.now.items in
    let at = Node c.in-Node.node c.in-Node.base in
    let fits = subst (IsInRange P (length row)) c.in-Node.is c.requires.in_range in
    let put = subst (λ (Q : NamedProgram). OnOk c.put_structure.result (IsPutIfParted Q at visits new)) (sym c.requires.program) c.put_structure.ensures in
    on_both c.put_structure.result (IsPutIfParted P at visits new) (IsPutIfParted P at visits new)
    (IsFollowed P row c.args.floor c.args.begun c.args.at visits new listed listed)
    (λ is same. subst (λ (r : Ref). IsFollowed P row c.args.floor c.args.begun r visits new listed listed) (sym c.in-Node.is)
    (structure_put P row c.args.floor c.args.begun c.requires.falls c.in-Node.node c.in-Node.base fits visits new listed is))
    put put

pub returns-in-Number : goal.returns-in-Number
returns-in-Number g c =
    let P = g.N.Naming.program in
    let row = c.args.cells.now in
    holds_nothing P row c.args.floor c.args.begun c.args.at c.args.visits.now.items c.args.out.now.items
    (λ n held. number_holds P row c.in-Number.field-0 c.args.at n c.in-Number.is held)
