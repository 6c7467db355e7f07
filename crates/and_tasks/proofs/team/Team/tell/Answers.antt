use Rattle.std.proofs.Common.{◌∙◌, [], List, ℕ, length, ap}
use Rattle.and_cells.specs.Ranges.{NamedProgram}
use Rattle.and_histories.specs.PlainTree as plain
use Rattle.and_tree.specs.Passes.{TreeId}
use Rattle.and_tree.specs.Replies.{is_last}
use Rattle.and_tasks.proofs.Having.{key_there, has_ended_under}
use Rattle.and_tasks.proofs.Ready.{told_at_work, told_shares}
use Rattle.and_tasks.proofs.Turns.{has_kept, told_works}
use Rattle.and_tasks.proofs.team.Team.tell.Goals as goal

pub answer-requires-clause-hand : goal.answer-requires-clause-hand
answer-requires-clause-hand g c =
    let s = c.args.self.now in
    key_there g.N.Naming.program c.args.shared.now.tree.now s.pass c.args.hand.now.branch s.stack.items c.key.result.now c.key.ensures
    c.requires.ready.works.has

pub add-requires-clause-branch : goal.add-requires-clause-branch
add-requires-clause-branch g c κs within =
    let stands = c.requires.ready.works.has.tasks_are.0 in (stands.tree, stands.branch)

pub returns-clause-at_work : goal.returns-clause-at_work
returns-clause-at_work g c =
    let P : NamedProgram = g.N.Naming.program in
    let tree : TreeId = c.args.shared.now.tree.now in
    let s = c.args.self.now in
    let h = c.args.hand.now in
    let now = c.add.new.self in
    let told = c.add.new.hand.branch in
    let left = c.in_ok-add.ensures.left in
    let works = told_works P tree (is_last c.answer.result) s.pass c.answer.new.pass s.found now.found h.branch c.key.result.now
    s.stack.items c.requires.ready.works (λ t branch. c.in_ok-add.ensures.entries t branch (c.requires.state t branch)) c.add.ensures.end
    c.key.ensures c.answer.ensures in
    record {
      at_work = told_at_work P tree c.answer.new.pass s.found now.pass now.found h told s.stack now.stack c.add.ensures.same.2
          c.add.ensures.same.1 left.0 left.1 c.requires.ready.served works;
      shares = told_shares now.found told.key c.len-common.result c.in_ok-add.ensures.last
          (c.len-common.ensures ∙ ap (λ (key : List ℕ). length key) c.key-2.ensures);
    }

pub returns-clause-has : goal.returns-clause-has
returns-clause-has g c = (returns-clause-at_work g c).at_work.works.has

pub returns-in_err-add-clause-has : goal.returns-in_err-add-clause-has
returns-in_err-add-clause-has g c =
    let P : NamedProgram = g.N.Naming.program in
    let tree : TreeId = c.args.shared.now.tree.now in
    let s = c.args.self.now in
    let now = c.add.new.self in
    has_kept P tree c.answer.new.pass now.pass [] s.stack now.stack c.add.ensures.same.1 c.add.ensures.same.2
    (has_ended_under P tree c.key.result.now c.args.hand.now.branch s.stack.items plain.answered (is_last c.answer.result) s.pass c.answer.new.pass
    c.key.ensures c.answer.ensures c.requires.ready.works.has)
