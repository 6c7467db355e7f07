use Rattle.std.proofs.Common.{sym, subst, length, false, refl}
use Rattle.and_model.specs.declared.reference.Ref.{Ref}
use Rattle.and_cells.specs.Ranges.{IsInRange}
use Rattle.and_cells.specs.Ends.{Ends}
use Rattle.and_circles.specs.Following.{Puts, argument_part}
use Rattle.and_circles.proofs.Sufficing.{part_found, part_fits, puts_nothing, puts_one}
use Rattle.and_circles.proofs.following.put_part.Goals as goal

pub ends_at_once-requires-clause-in_range : goal.ends_at_once-requires-clause-in_range
ends_at_once-requires-clause-in_range g c =
    let P = g.N.Naming.program in
    let is = part_found P c.args.cells.now c.args.node c.args.base c.args.loaded.now c.argument.result.0 c.args.place c.resolve-part.result c.requires.program
    c.resolve-part.ensures c.argument.ensures.node in
    subst (IsInRange P (length c.args.cells.now)) (sym is)
    (part_fits P c.args.cells.now c.args.node c.args.base c.requires.falls c.requires.in_range c.args.place c.requires.place)

pub returns-in_ok-push : goal.returns-in_ok-push
returns-in_ok-push g c =
    let P = g.N.Naming.program in
    let row = c.args.cells.now in
    let is = part_found P c.args.cells.now c.args.node c.args.base c.args.loaded.now c.argument.result.0 c.args.place c.resolve-part.result c.requires.program
    c.resolve-part.ensures c.argument.ensures.node in
    subst (λ (r : Ref). Puts P row c.args.floor (Ends P row c.args.floor false r) c.args.visits.now.items c.push.new.self.items) is
    (puts_one P row c.args.floor c.resolve-part.result c.args.visits.now.items c.push.new.self.items
    (subst (IsInRange P (length row)) (sym is) (part_fits P row c.args.node c.args.base c.requires.falls c.requires.in_range c.args.place c.requires.place))
    c.in_ok-push.ensures.items)

pub returns-else-not-ends_at_once : goal.returns-else-not-ends_at_once
returns-else-not-ends_at_once g c =
    let P = g.N.Naming.program in
    let row = c.args.cells.now in
    let is = part_found P c.args.cells.now c.args.node c.args.base c.args.loaded.now c.argument.result.0 c.args.place c.resolve-part.result c.requires.program
    c.resolve-part.ensures c.argument.ensures.node in
    puts_nothing P row c.args.floor (Ends P row c.args.floor false (argument_part P c.args.node c.args.base c.args.place)) c.args.visits.now.items
    (subst (Ends P row c.args.floor false) is (c.if-not-ends_at_once.ensures refl))
