use Rattle.std.proofs.Common.{ap, subst, length, List}
use Rattle.std.proofs.lemmas.Result.{on_ok_weaker}
use Rattle.and_program.specs.Skeletons.{Shape}
use Rattle.and_judging.specs.Marks.{mark_of, open_mark, next}
use Rattle.and_judging.specs.Sorts.{shapes_under, TokenThere}
use Rattle.and_judging.proofs.SortedWhole.{item_sorted, marked}
use Rattle.and_judging.proofs.sorting.take_token.Goals as goal

pub returns-in_ok-note_item-in-Item-clause-sorted : goal.returns-in_ok-note_item-in-Item-clause-sorted
returns-in_ok-note_item-in-Item-clause-sorted c = λ names.
    let ss : List Shape = shapes_under names c.args.parts.now in
    on_ok_weaker c.add_piece.result
    (item_sorted ss c.args.sorting.now c.in-Item.item c.args.token.now c.note_item.new.disjunctions.items c.add_piece.new.outlines.items c.in-Item.is
    (c.in_ok-note_item-in-Item.ensures names))
    (c.add_piece.ensures.altered ss)

pub returns-in-Open-clause-sorted : goal.returns-in-Open-clause-sorted
returns-in-Open-clause-sorted c = λ names.
    let ss : List Shape = shapes_under names c.args.parts.now in
    marked ss c.open.result c.open.new.sorting c.args.sorting.now c.args.token.now (open_mark c.in-Open.field-0) (ap (mark_of ss) c.in-Open.is)
    (c.open.ensures.sorted ss c.in-Open.field-0)

pub returns-in-Next-clause-sorted : goal.returns-in-Next-clause-sorted
returns-in-Next-clause-sorted c = λ names.
    let ss : List Shape = shapes_under names c.args.parts.now in
    marked ss c.next.result c.next.new.sorting c.args.sorting.now c.args.token.now (next c.in-Next.field-0) (ap (mark_of ss) c.in-Next.is)
    (c.next.ensures.sorted ss c.in-Next.field-0)

pub returns-in_ok-note_item-in-Item-clause-there : goal.returns-in_ok-note_item-in-Item-clause-there
returns-in_ok-note_item-in-Item-clause-there c =
    c.add_piece.ensures.there (length c.args.parts.now) (subst (TokenThere (length c.args.parts.now)) c.in-Item.is c.requires.there, tt)
