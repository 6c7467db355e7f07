use Rattle.std.proofs.Common.{arith}
use Rattle.std.proofs.lemmas.List.{nil_from_length}
use Rattle.and_answers.proofs.MergeLemmas.{taken_other, taken_one, taken_straight, taken_turned}
use Rattle.and_answers.proofs.merging.next.Goals as goal

pub returns-in_default-clause-first : goal.returns-in_default-clause-first
returns-in_default-clause-first c =
    let one = c.args.one.now in
    let none = nil_from_length one.items (omega (arith, one.ok.0, c.in_default.ensures.cases.0)) in
    let none_left = nil_from_length c.pop.new.self.items (omega (arith, c.pop.new.self.ok.0, c.in_default.ensures.cases.1)) in
    taken_other c.pop-in_default.result one.items c.pop.new.self.items c.args.other.now.items c.pop-in_default.new.self.items none none_left
    c.pop-in_default.ensures.items

pub returns-in_default-pop-clause-first : goal.returns-in_default-pop-clause-first
returns-in_default-pop-clause-first c =
    let other = c.args.other.now in
    let none = nil_from_length other.items (omega (arith, other.ok.0, c.in_default-pop.ensures.cases.0)) in
    let none_left = nil_from_length c.pop-2.new.self.items (omega (arith, c.pop-2.new.self.ok.0, c.in_default-pop.ensures.cases.1)) in
    taken_one c.in-Some.first c.args.one.now.items c.pop.new.self.items other.items c.pop-2.new.self.items c.in-Some.ensures.items none none_left

pub returns-then-is_turned-clause-first : goal.returns-then-is_turned-clause-first
returns-then-is_turned-clause-first c =
    let two = c.meet-first.result in
    taken_turned c.in-Some.first c.in-Some-pop.second two.first two.second c.pop.new.self.items c.pop-2.new.self.items c.args.one.now.items
    c.args.other.now.items c.push.new.self.items c.in-Some.ensures.items c.in-Some-pop.ensures.items c.in_ok-push.ensures.items
    (c.meet-first.ensures.turned c.if-is_turned.true) c.meet-first.ensures.behind

pub returns-clause-first : goal.returns-clause-first
returns-clause-first c =
    let two = c.meet-first.result in
    taken_straight c.in-Some.first c.in-Some-pop.second two.first two.second c.pop.new.self.items c.pop-2.new.self.items c.args.one.now.items
    c.args.other.now.items c.push-2.new.self.items c.in-Some.ensures.items c.in-Some-pop.ensures.items c.in_ok-push-2.ensures.items
    (c.meet-first.ensures.straight c.if-is_turned.false) c.meet-first.ensures.behind
