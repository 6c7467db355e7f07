use Rattle.std.proofs.Common.{◌≡◌, Ok, Some, sym, ap, ◌∙◌}
use Rattle.and_determinacy.specs.Watching.{HaveWhatWasSet, HadBefore, told_if}
use Rattle.and_determinacy.proofs.Told.{where_told, set_gathered, had_before}
use Rattle.and_determinacy.proofs.rests.Rests.add.Goals as goal

pub gather-requires-clause-in_range : goal.gather-requires-clause-in_range
gather-requires-clause-in_range g c = c.in_ok-list_below.ensures.suffices.in_range

pub returns-clause-before : goal.returns-clause-before
returns-clause-before g c =
    let was = c.self.inside.cells.items in
    let told : c.args.self.now ≡ Some was = sym c.self.view_is ∙ ap (λ b. told_if b was) c.if-not-self.false in
    let cells = c.gather.new.out.items in
    let longer = c.in_ok-self-inside.ensures.longer in
    where_told (HadBefore c.args.self.now) c.in_ok-self-inside.field-0 cells (λ is.
    had_before g.N.Naming.program c.args.cells.now c.args.floor c.args.bound.now was c.list_below.new.out.items c.list_below.new.visits.items
    c.in_ok-list_below.ensures cells longer.0 longer.1 c.args.self.now told)

pub returns-clause-have : goal.returns-clause-have
returns-clause-have g c =
    let P = g.N.Naming.program in
    let row = c.args.cells.now in
    let cells = c.gather.new.out.items in
    let longer = c.in_ok-self-inside.ensures.longer in
    where_told (HaveWhatWasSet P row c.args.floor c.args.bound.now) c.in_ok-self-inside.field-0 cells (λ is.
    set_gathered P row c.args.floor c.args.bound.now c.self.inside.cells.items c.list_below.new.out.items c.list_below.new.visits.items
    c.in_ok-list_below.ensures cells longer.0 longer.1 (c.in_ok-self-inside.ensures.all (ap (λ b. Ok b) is)))
