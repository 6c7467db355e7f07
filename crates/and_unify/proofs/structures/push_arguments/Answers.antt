use Rattle.std.proofs.Common.{arith, ◌<◌, ◌≤◌, ◌∙◌}
use Rattle.and_cells.specs.Parts.{named, parts_of}
use Rattle.and_unify.proofs.TurnArguments.{list_few, list_more, list_whole, argument_of_part, arguments_counted}
use Rattle.and_unify.proofs.structures.push_arguments.Goals as goal

pub returns-in_err-push-clause-few : goal.returns-in_err-push-clause-few
returns-in_err-push-clause-few c =
    let P = named c.args.loaded.now in
    let few : c.argument_count-place-end.result < 256 = c.argument_count-place-end.type_inv in
    let below : c.loop-place.place ≤ 255 = let at = c.loop-place-test.true in omega arith in
    list_few c.args.list.now c.push.new.self (parts_of P c.args.left) (parts_of P c.args.right) c.loop-place.place (c.in_err-push.ensures.unchanged
    ∙ c.loop-place.invariant) below

pub loop-place-preserved : goal.loop-place-preserved
loop-place-preserved c =
    let P = named c.args.loaded.now in
    let left = argument_of_part P c.args.left c.argument_at.result c.as_structure-left.result.node c.as_structure-left.result.base c.loop-place.place
    c.as_structure-left.ensures c.argument_at.ensures in
    let right = argument_of_part P c.args.right c.argument_at-in-loop-place.result c.as_structure-right.result.node c.as_structure-right.result.base
    c.loop-place.place c.as_structure-right.ensures c.argument_at-in-loop-place.ensures in
    list_more c.args.list.now c.loop-place.list c.push.new.self (parts_of P c.args.left) (parts_of P c.args.right) c.loop-place.place c.argument_at.result
    c.argument_at-in-loop-place.result left right
    c.loop-place.invariant c.in_ok-push.ensures.ok

pub returns-clause-ok : goal.returns-clause-ok
returns-clause-ok c =
    let P = named c.args.loaded.now in
    let s = c.requires.1 in
    let counted = arguments_counted P c.args.left c.as_structure-left.result.node c.as_structure-left.result.base s.name s.count
    c.as_structure-left.ensures s.left_is in
    let all : s.count ≤ c.loop-place.place = let end = c.argument_count-place-end.ensures in let past = c.loop-place-test.false in omega arith in
    list_whole P c.args.list.now c.loop-place.list c.args.left c.args.right s.name s.count c.loop-place.place s.left_is s.right_is all c.loop-place.invariant

pub returns-clause-few : goal.returns-clause-few
returns-clause-few c =
    let P = named c.args.loaded.now in
    let few : c.argument_count-place-end.result < 256 = c.argument_count-place-end.type_inv in
    let below : c.loop-place.place ≤ 255 = let end = c.loop-place.auto.place-end in omega arith in
    list_few c.args.list.now c.loop-place.list (parts_of P c.args.left) (parts_of P c.args.right) c.loop-place.place c.loop-place.invariant below
