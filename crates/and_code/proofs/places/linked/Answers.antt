use Rattle.std.proofs.Common.{◌+◌, ◌-◌, ◌≡◌, ◌<◌, length, get_or, sym, ◌∙◌, subst, arith}
use Rattle.std.proofs.lemmas.Option.{same_Some, slice_get_within}
use Rattle.and_code.specs.Places.{IsPlace, IsLeft}
use Rattle.and_code.proofs.Images.{default_apart}
use Rattle.and_code.proofs.Linking.{left_first, left_next, found_here, found_none}
use Rattle.and_code.proofs.places.linked.Goals as goal

pub loop-behind-init : goal.loop-behind-init
loop-behind-init c =
    subst (IsLeft c.args.reductions.now c.args.node c.args.item) (sym c.last_at-behind.ensures)
    (left_first c.args.reductions.now c.args.node c.args.item _ (c.requires.at_node c.args.node))

pub loop-behind-preserved : goal.loop-behind-preserved
loop-behind-preserved c =
    let rs = c.args.reductions.now in
    let behind = c.loop-behind.behind in
    let r = c.at-reduction.result.now in
    let here_is = c.at-reduction.ensures in
    let next : behind ≡ behind - 1 + 1 = omega arith in
    let left = subst (IsLeft rs c.args.node c.args.item) next c.loop-behind.invariant in
    let low = slice_get_within rs (behind - 1) r here_is in
    let before = c.args.links.now.before.items in
    let inside : behind - 1 < length before = let many = c.requires.many in omega arith in
    let read : c.index-behind.result.now ≡ get_or before (behind - 1) 0 =
    c.index-behind.ensures ∙ default_apart before (behind - 1) c.index-behind.result.now 0 inside in
    subst (IsLeft rs c.args.node c.args.item) (sym read)
    (left_next rs c.args.node c.args.item (behind - 1) (get_or before (behind - 1) 0) r here_is c.if-reduction-item.false left
    (c.requires.at_place (behind - 1) r low here_is))

pub loop-behind-smaller : goal.loop-behind-smaller
loop-behind-smaller c =
    let rs = c.args.reductions.now in
    let place = c.loop-behind.behind - 1 in
    let r = c.at-reduction.result.now in
    let here_is = c.at-reduction.ensures in
    let low = slice_get_within rs place r here_is in
    let before = c.args.links.now.before.items in
    let inside : place < length before = let many = c.requires.many in omega arith in
    let read : c.index-behind.result.now ≡ get_or before place 0 =
    c.index-behind.ensures ∙ default_apart before place c.index-behind.result.now 0 inside in
    let less = (c.requires.at_place place r low here_is).low in
    omega arith

pub returns-then-reduction-item-clause-some : goal.returns-then-reduction-item-clause-some
returns-then-reduction-item-clause-some c = λ place e.
    let rs = c.args.reductions.now in
    let behind = c.loop-behind.behind in
    let r = c.at-reduction.result.now in
    let next : behind ≡ behind - 1 + 1 = omega arith in
    let left = subst (IsLeft rs c.args.node c.args.item) next c.loop-behind.invariant in
    subst (IsPlace rs c.args.node c.args.item) (same_Some (behind - 1) place e)
    (r, c.at-reduction.ensures, found_here rs c.args.node c.args.item (behind - 1) r c.at-reduction.ensures c.if-reduction-item.true left)

pub returns-clause-none : goal.returns-clause-none
returns-clause-none c = λ e.
    let none : c.loop-behind.behind ≡ 0 = omega arith in
    found_none c.args.reductions.now c.args.node c.args.item
    (subst (IsLeft c.args.reductions.now c.args.node c.args.item) none c.loop-behind.invariant)
