use Rattle.and_answers.specs.Runs.{IsTakenOff}
use Rattle.and_answers.proofs.MergeLemmas.{if_some_at, if_none_at, fewer_left, one_taken, all_taken}
use Rattle.and_answers.proofs.merging.merged.Goals as goal

pub loop-tails-smaller : goal.loop-tails-smaller
loop-tails-smaller c =
    let one = c.loop-tails.one.items in
    let other = c.loop-tails.other.items in
    let off = if_some_at c.in_ok-first.field-0 c.in-Some.first (λ t. IsTakenOff t one other c.next.new.one.items c.next.new.other.items)
    c.in-Some.is c.in_ok-first.ensures.first in
    fewer_left c.in-Some.first one other c.next.new.one.items c.next.new.other.items off

pub loop-tails-preserved : goal.loop-tails-preserved
loop-tails-preserved c =
    let one = c.loop-tails.one.items in
    let other = c.loop-tails.other.items in
    let off = if_some_at c.in_ok-first.field-0 c.in-Some.first (λ t. IsTakenOff t one other c.next.new.one.items c.next.new.other.items)
    c.in-Some.is c.in_ok-first.ensures.first in
    one_taken c.args.run c.args.other c.loop-tails.tails.items c.push.new.self.items one other c.next.new.one.items c.next.new.other.items
    c.in-Some.first c.in_ok-push.ensures.items c.loop-tails.invariant off

pub returns : goal.returns
returns c =
    let one = c.loop-tails.one.items in
    let other = c.loop-tails.other.items in
    let none = if_none_at c.in_ok-first.field-0 _ c.in_default.is c.in_ok-first.ensures.none in
    all_taken c.args.run c.args.other c.loop-tails.tails.items one other c.reverse.new.self.items c.loop-tails.invariant none
    c.reverse.ensures.items
