use Rattle.std.proofs.Common.{◌∙◌, ap, subst, arith, ◌≡◌, ◌<◌, ◌+◌, length, drop, vec_capacity}
use Rattle.and_store.specs.Calls.{HandsOut}
use Rattle.and_store.specs.Passes.{PassSeen}
use Rattle.and_store.specs.Told.{mine_of}
use Rattle.and_store.proofs.Goals_told.{hands_out, at_in, drop_first}
use Rattle.and_store.proofs.store.Store.woken.Goals as goal

pub returns-clause-some : goal.returns-clause-some
returns-clause-some g c =
    let p = c.pass.inside in
    let v = p.seat.me.0 in
    let w = c.look_at_goal-lower.new.seat.me.0 in
    let waiter = c.index-waiter.result.now in
    let there : p.handed < length p.taken.items = let a = c.if-pass-len.false in let b = c.len.ensures in omega (arith, a, b) in
    let words : v.about.words ≡ c.args.self.now.about.words = ap (λ z. z.store.about.words) c.pass.view_is ∙ ap (λ z. z.about.words) c.requires.store in
    let old : PassSeen = record { store = record { table = p.seat.table_id; about = v.about }; pass = (mine_of v).pass; kept = drop p.handed p.taken.items } in
    let now : PassSeen = record {
      store = record { table = c.look_at_goal-lower.new.seat.table_id; about = w.about };
      pass = (mine_of w).pass;
      kept = drop (p.handed + 1) p.taken.items;
    } in
    let all : HandsOut g.N.Naming.program v.about.words c.goal_of_words.result old now =
    hands_out g.N.Naming.program v c.look_at_goal-upper.new.seat.me.0 w waiter c.look_at_goal-upper.result c.look_at_goal-lower.result p.number p.hung
    p.is_refused p.frames_end p.taken.items
    (vec_capacity p.taken) p.handed c.pass.invariant.1 (at_in p.taken.items p.handed waiter there c.index-waiter.ensures) c.look_at_goal-upper.ensures.told.0
    c.look_at_goal-lower.ensures.told.0
    c.goal_of_words.result c.goal_of_words.ensures.0 c.goal_of_words.ensures.1 old.store now.store (drop (p.handed + 1) p.taken.items)
    (drop_first p.taken.items p.handed waiter there c.index-waiter.ensures) in
    subst (λ n. HandsOut g.N.Naming.program n c.goal_of_words.result c.args.pass.now now) words
    (subst (λ q. HandsOut g.N.Naming.program v.about.words c.goal_of_words.result q now) c.pass.view_is all)
