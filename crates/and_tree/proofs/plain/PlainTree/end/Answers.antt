use Rattle.std.proofs.Common.{arith}
use Rattle.and_histories.specs.PlainTree.{Holds}
use Rattle.and_tree.specs.Counted.{tally, ending_of}
use Rattle.and_tree.specs.Replies.{is_last}
use Rattle.and_tree.proofs.Turning.{turn_end, held_before, one_less, less_left}
use Rattle.and_tree.proofs.plain.PlainTree.end.Goals as goal

pub returns : goal.returns
returns g c =
    turn_end c.args.self.now c.self.inside.places c.take_out.new.self (tally c.self.inside.counts) (tally c.count_end.new.self) c.self.inside.left
    c.args.team c.args.key.now (ending_of c.args.how) (is_last c.last_if.result) c.self.view_is c.self.invariant c.requires c.take_out.ensures
    c.count_end.ensures c.last_if.ensures

pub overflow_sub-self : goal.overflow_sub-self
overflow_sub-self g c =
    let p = c.self.inside in
    let holds = held_before c.args.self.now p.places (tally p.counts) (λ s. Holds s c.args.team c.args.key.now) c.self.view_is c.requires in
    omega (arith, c.self.invariant, one_less p.places.state c.args.team c.args.key.now holds)

pub invariant_of-self : goal.invariant_of-self
invariant_of-self g c =
    let p = c.self.inside in
    let holds = held_before c.args.self.now p.places (tally p.counts) (λ s. Holds s c.args.team c.args.key.now) c.self.view_is c.requires in
    less_left p.places c.take_out.new.self p.left c.args.team c.args.key.now c.self.invariant holds c.take_out.ensures
