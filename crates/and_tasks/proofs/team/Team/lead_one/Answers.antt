use Rattle.std.proofs.Common.{◌∙◌}
use Rattle.and_tasks.proofs.Ready.{ready_on, ready_still}
use Rattle.and_tasks.proofs.team.Team.lead_one.Goals as goal

pub go_in_hand-requires-clause-ready : goal.go_in_hand-requires-clause-ready
go_in_hand-requires-clause-ready g c κs within =
    let P = g.N.Naming.program in
    let tree = c.args.shared.now.tree.now in
    let s = c.args.self.now in
    let t = c.note_work.new.self in
    let same = c.note_work.ensures in
    let h = c.args.hand.now in
    let d = c.advance_to_state-advanced.new.self in
    ready_on P tree t.pass t.found t.stack.items h d
    (ready_still P tree s.pass s.found t.pass t.found s.stack t.stack h same.1 same.2 same.3 c.requires.ready)
    c.advance_to_state-advanced.ensures.same (λ u branch. let v = c.in-Ok.ensures.steps u branch in (v.0, v.1)) c.in-Ok.ensures.back

pub go_in_hand-requires-clause-none : goal.go_in_hand-requires-clause-none
go_in_hand-requires-clause-none g c κs within = c.note_work.ensures.4 ∙ c.requires.none

pub give_up_key-requires-clause-has : goal.give_up_key-requires-clause-has
give_up_key-requires-clause-has g c κs within =
    let s = c.args.self.now in
    let t = c.note_work.new.self in
    let same = c.note_work.ensures in
    let h = c.args.hand.now in (
      h.branch,
      c.of.ensures ∙ c.key.ensures ∙ c.advance_to_state-advanced.ensures.same.key,
      (ready_still g.N.Naming.program c.args.shared.now.tree.now s.pass s.found t.pass t.found s.stack t.stack h same.1 same.2 same.3
          c.requires.ready).works.has,
    )
