use Rattle.std.proofs.Common.{rules, arith, ◌+◌, ◌≤◌, ◌∙◌, refl, length, sym, vec_capacity, subst}
use Rattle.crossbeam_deque.specs.Handles.{worker_view}
use Rattle.and_goals.proofs.Moves.{learns}
use Rattle.and_goals.proofs.Emptying.{moving_start, moving_next, moving_end, room_left, counted, parts_kept}
use Rattle.and_goals.proofs.deque.empty.Goals as goal

pub len_as-left-requires : goal.len_as-left-requires
len_as-left-requires c = learns _ _

pub len_as-requires : goal.len_as-requires
len_as-requires c = learns _ _

pub loop-init : goal.loop-init
loop-init c =
    let v0 = worker_view c.args.owner.now in
    let rule = c.len_as-left.ensures.rule in
    let count = counted v0 rule.0 c.len_as-left.result c.requires.parts rule.1 rule.2 in record {
      same = c.len_as-left.ensures.same.0;
      capacity = refl;
      moving = moving_start v0 (worker_view c.len_as-left.new.self) c.args.goals.now.items c.len_as-left.result c.requires.parts
          c.len_as-left.ensures.same.2 count;
    }

pub move_one-requires-clause-part : goal.move_one-requires-clause-part
move_one-requires-clause-part c =
    parts_kept (worker_view c.args.owner.now) c.args.goals.now.items c.len_as-left.result c.loop.counter (worker_view c.loop.owner)
    c.loop.goals.items c.loop.invariant.moving

pub move_one-requires-clause-room : goal.move_one-requires-clause-room
move_one-requires-clause-room c =
    let v0 = worker_view c.args.owner.now in
    let rule = c.len_as-left.ensures.rule in
    let count = counted v0 rule.0 c.len_as-left.result c.requires.parts rule.1 rule.2 in
    let most : length c.args.goals.now.items + length v0.put ≤ vec_capacity c.loop.goals =
    subst (λ n. length c.args.goals.now.items + length v0.put ≤ n) (sym c.loop.invariant.capacity) c.requires.room in
    room_left v0 c.args.goals.now.items c.len_as-left.result c.loop.counter (worker_view c.loop.owner) c.loop.goals.items
    (vec_capacity c.loop.goals) c.loop.invariant.moving c.loop-test.true count most

pub loop-preserved : goal.loop-preserved
loop-preserved c =
    let v0 = worker_view c.args.owner.now in
    let i = c.loop.invariant in
    let s = i.same in
    let t = c.move_one.ensures.same in record {
      same = (t.0 ∙ s.0, t.1 ∙ s.1, t.2 ∙ s.2, (let a = s.3 in let b = t.3 in omega arith));
      capacity = c.move_one.ensures.capacity ∙ i.capacity;
      moving = moving_next v0 c.args.goals.now.items c.len_as-left.result c.loop.counter (worker_view c.loop.owner)
          (worker_view c.move_one.new.owner) c.loop.goals.items c.move_one.new.goals.items
          i.moving c.loop-test.true c.move_one.ensures.moved;
    }

pub returns-clause-moved : goal.returns-clause-moved
returns-clause-moved c =
    let rule = c.len_as.ensures.rule in
    moving_end (worker_view c.args.owner.now) c.args.goals.now.items c.len_as-left.result c.loop.counter (worker_view c.loop.owner)
    c.loop.goals.items rule.0 c.loop.invariant.moving (search rules) rule.2
