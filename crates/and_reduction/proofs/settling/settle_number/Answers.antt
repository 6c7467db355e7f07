use Rattle.std.proofs.Common.{◌∙◌, List, refl, ap, sym, subst, length}
use Rattle.std.specs.Prelude.{set}
use Rattle.and_model.specs.declared.reference.Ref.{Ref}
use Rattle.and_model.specs.declared.reference.Ref.TheVariants.{Cell, Number}
use Rattle.and_cells.specs.Ranges.{IsInRange}
use Rattle.and_cells.specs.Rows.{plain}
use Rattle.and_cells.specs.Parts.{part_at}
use Rattle.and_cells.specs.Seen.{word_at, IsWrittenIfNumber, LeadsTo}
use Rattle.and_branch_laws.proofs.Loading.{falls_in, resolved_is}
use Rattle.and_cells.specs.Meaning.{IsSettled}
use Rattle.and_unify.specs.Pairs.{AreInRange, AreWritten, NameNoHalf}
use Rattle.and_unify.specs.Settling.{AreNewFrom, Settles, SetsPlaces}
use Rattle.and_reduction.specs.Asked.{the_pair}
use Rattle.and_reduction.specs.Trails.{KeepsNoted}
use Rattle.and_reduction.proofs.NumbersSet.{sides_in_range, sides_written, pair_written, number_settles, number_noted, number_places}
use Rattle.and_reduction.proofs.settling.settle_number.Goals as goal

pub end_of-requires-clause-in_range : goal.end_of-requires-clause-in_range
end_of-requires-clause-in_range g c =
    let P = g.N.Naming.program in
    let left = c.resolve-left.result in
    let is = resolved_is P c.args.loaded.now c.args.node c.args.base left c.requires.program c.resolve-left.ensures in
    subst (IsInRange P (length c.args.cells.now)) (sym is)
    (sides_in_range P c.args.cells.now (part_at P c.args.base c.args.node.0) c.args.pair c.requires.in_range).0

pub end_of-requires-clause-written : goal.end_of-requires-clause-written
end_of-requires-clause-written g c =
    let P = g.N.Naming.program in
    let left = c.resolve-left.result in
    let is = resolved_is P c.args.loaded.now c.args.node c.args.base left c.requires.program c.resolve-left.ensures in
    subst (IsWrittenIfNumber (plain c.args.cells.now)) (sym is)
    (sides_written P c.args.cells.now (part_at P c.args.base c.args.node.0) c.args.pair c.requires.written).0

pub set_to_number-requires-clause-pair : goal.set_to_number-requires-clause-pair
set_to_number-requires-clause-pair g c =
    subst (λ r. IsInRange g.N.Naming.program (length r) (Number c.args.pair)) (sym c.end_of.ensures.unchanged)
    (sides_in_range g.N.Naming.program c.args.cells.now (part_at g.N.Naming.program c.args.base c.args.node.0) c.args.pair c.requires.in_range).1

pub set_to_number-requires-clause-written : goal.set_to_number-requires-clause-written
set_to_number-requires-clause-written g c =
    pair_written g.N.Naming.program c.args.cells.now (part_at g.N.Naming.program c.args.base c.args.node.0) c.args.pair c.end_of.new.cells
    c.end_of.ensures.unchanged c.len-words.ensures.sound
    c.requires.written

pub returns-in-Cell-clause-settles : goal.returns-in-Cell-clause-settles
returns-in-Cell-clause-settles g c =
    let P = g.N.Naming.program in
    let row = c.args.cells.now in
    let fall = falls_in P c.args.loaded.now c.requires.program c.skeleton_is_of_the_program.ensures.skeleton.0 in
    let found = resolved_is P c.args.loaded.now c.args.node c.args.base c.resolve-left.result c.requires.program c.resolve-left.ensures in
    let leads = subst (λ (r : Ref). LeadsTo (plain row) r (Cell c.in-Cell.cell)) found c.in-Cell.ensures.leads in
    let is = c.set_to_number.ensures.set ∙ ap (λ r. set r c.in-Cell.cell (Number c.args.pair)) c.end_of.ensures.unchanged in
    number_settles P row c.set_to_number.new.cells (part_at g.N.Naming.program c.args.base c.args.node.0) c.in-Cell.cell c.args.pair c.args.floor
    (the_pair (part_at g.N.Naming.program c.args.base c.args.node.0) (Number c.args.pair)) refl fall
    c.len-words.ensures.sound c.requires.in_range c.requires.written leads c.in-Cell.ensures.in_range
    (c.in-Cell.ensures.free c.in-Cell.cell refl) is c.requires.settled c.requires.no_half c.requires.new c.set_to_number.ensures.sound
    c.set_to_number.result c.set_to_number.ensures.solved

pub returns-in-Cell-clause-noted : goal.returns-in-Cell-clause-noted
returns-in-Cell-clause-noted g c = λ other.
    let P = g.N.Naming.program in
    let row = c.args.cells.now in
    let fall = falls_in P c.args.loaded.now c.requires.program c.skeleton_is_of_the_program.ensures.skeleton.0 in
    let found = resolved_is P c.args.loaded.now c.args.node c.args.base c.resolve-left.result c.requires.program c.resolve-left.ensures in
    let leads = subst (λ (r : Ref). LeadsTo (plain row) r (Cell c.in-Cell.cell)) found c.in-Cell.ensures.leads in
    let is = c.set_to_number.ensures.set ∙ ap (λ r. set r c.in-Cell.cell (Number c.args.pair)) c.end_of.ensures.unchanged in
    number_noted P row c.set_to_number.new.cells (part_at g.N.Naming.program c.args.base c.args.node.0) c.in-Cell.cell c.args.pair c.args.floor
    (the_pair (part_at g.N.Naming.program c.args.base c.args.node.0) (Number c.args.pair)) refl fall
    c.len-words.ensures.sound c.requires.in_range c.requires.written leads c.in-Cell.ensures.in_range
    (c.in-Cell.ensures.free c.in-Cell.cell refl) is c.args.trail.now c.set_to_number.new.trail (c.set_to_number.ensures.noted other)

pub settle_pair-requires-clause-in_range : goal.settle_pair-requires-clause-in_range
settle_pair-requires-clause-in_range g c =
    subst (λ (r : List Ref). AreInRange g.N.Naming.program (length r) (the_pair (part_at g.N.Naming.program c.args.base c.args.node.0) (Number c.args.pair)))
    (sym c.end_of.ensures.unchanged) c.requires.in_range

pub settle_pair-requires-clause-written : goal.settle_pair-requires-clause-written
settle_pair-requires-clause-written g c =
    subst (λ (r : List Ref). AreWritten (plain r) (the_pair (part_at g.N.Naming.program c.args.base c.args.node.0) (Number c.args.pair)))
    (sym c.end_of.ensures.unchanged) c.requires.written

pub settle_pair-requires-clause-settled : goal.settle_pair-requires-clause-settled
settle_pair-requires-clause-settled g c =
    subst (λ (r : List Ref). IsSettled g.N.Naming.program r) (sym c.end_of.ensures.unchanged) c.requires.settled

pub settle_pair-requires-clause-no_half : goal.settle_pair-requires-clause-no_half
settle_pair-requires-clause-no_half g c =
    subst (λ (r : List Ref). NameNoHalf g.N.Naming.program (word_at r) (the_pair (part_at g.N.Naming.program c.args.base c.args.node.0) (Number c.args.pair)))
    (sym c.end_of.ensures.unchanged) c.requires.no_half

pub settle_pair-requires-clause-new : goal.settle_pair-requires-clause-new
settle_pair-requires-clause-new g c =
    subst (λ (r : List Ref). AreNewFrom g.N.Naming.program r (the_pair (part_at g.N.Naming.program c.args.base c.args.node.0) (Number c.args.pair))
    c.args.floor) (sym c.end_of.ensures.unchanged) c.requires.new

pub returns-clause-settles : goal.returns-clause-settles
returns-clause-settles g c =
    subst (λ (r : List Ref). Settles g.N.Naming.program r c.settle_pair.new.cells
    (the_pair (part_at g.N.Naming.program c.args.base c.args.node.0) (Number c.args.pair)) c.settle_pair.result)
    c.end_of.ensures.unchanged c.settle_pair.ensures.settles

pub returns-clause-noted : goal.returns-clause-noted
returns-clause-noted g c = λ other.
    subst (λ (r : List Ref). KeepsNoted c.args.trail.now c.settle_pair.new.trail r c.settle_pair.new.cells) c.end_of.ensures.unchanged
    (c.settle_pair.ensures.noted other)

pub returns-in-Cell-clause-places : goal.returns-in-Cell-clause-places
returns-in-Cell-clause-places g c =
    let P = g.N.Naming.program in
    let row = c.args.cells.now in
    let fall = falls_in P c.args.loaded.now c.requires.program c.skeleton_is_of_the_program.ensures.skeleton.0 in
    let found = resolved_is P c.args.loaded.now c.args.node c.args.base c.resolve-left.result c.requires.program c.resolve-left.ensures in
    let leads = subst (λ (r : Ref). LeadsTo (plain row) r (Cell c.in-Cell.cell)) found c.in-Cell.ensures.leads in
    let is = c.set_to_number.ensures.set ∙ ap (λ r. set r c.in-Cell.cell (Number c.args.pair)) c.end_of.ensures.unchanged in
    number_places P row c.set_to_number.new.cells (part_at g.N.Naming.program c.args.base c.args.node.0) c.in-Cell.cell c.args.pair c.args.floor
    (the_pair (part_at g.N.Naming.program c.args.base c.args.node.0) (Number c.args.pair)) refl fall
    c.len-words.ensures.sound c.requires.in_range c.requires.written leads c.in-Cell.ensures.in_range
    (c.in-Cell.ensures.free c.in-Cell.cell refl) is

pub returns-clause-places : goal.returns-clause-places
returns-clause-places g c =
    subst (λ (r : List Ref). SetsPlaces g.N.Naming.program r c.settle_pair.new.cells
    (the_pair (part_at g.N.Naming.program c.args.base c.args.node.0) (Number c.args.pair))) c.end_of.ensures.unchanged c.settle_pair.ensures.places
