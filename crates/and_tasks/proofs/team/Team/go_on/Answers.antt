use Rattle.std.proofs.Common.{◌∙◌, refl}
use Rattle.and_cells.specs.Ranges.{NamedProgram}
use Rattle.and_branch.specs.declared.state.BranchState.TheVariants as told
use Rattle.and_tree.specs.Replies.{is_last}
use Rattle.and_branch.proofs.StatesTold.{state_told, has_floundered, has_answered}
use Rattle.and_tasks.proofs.Having.{key_there}
use Rattle.and_tasks.proofs.Ready.{ended_shares, left_at_work, none_shares}
use Rattle.and_tasks.proofs.Turns.{failed_works, cut_works}
use Rattle.and_tasks.proofs.team.Team.go_on.Goals as goal

pub tell-requires-in-Floundered-clause-state : goal.tell-requires-in-Floundered-clause-state
tell-requires-in-Floundered-clause-state g c κs within =
    state_told g.N.Naming.program c.args.hand.now.branch c.args.state told.Floundered c.in-Floundered.is c.requires.state

pub tell-requires-in-Floundered-clause-ended : goal.tell-requires-in-Floundered-clause-ended
tell-requires-in-Floundered-clause-ended g c κs within =
    let P : NamedProgram = g.N.Naming.program in
    let b = c.args.hand.now.branch in
    let stands = c.requires.ready.works.has.tasks_are.0 in
    let state = state_told P b c.args.state told.Floundered c.in-Floundered.is c.requires.state in
    has_floundered P b c.args.state stands.tree stands.branch c.in-Floundered.is (state stands.tree stands.branch) c.requires.at_rest

pub retire-requires-clause-hand : goal.retire-requires-clause-hand
retire-requires-clause-hand g c =
    let s = c.args.self.now in
    key_there g.N.Naming.program c.args.shared.now.tree.now s.pass c.args.hand.now.branch s.stack.items c.key.result.now c.key.ensures
    c.requires.ready.works.has

pub retire-requires-in-OverLimit-clause-hand : goal.retire-requires-in-OverLimit-clause-hand
retire-requires-in-OverLimit-clause-hand g c =
    let s = c.args.self.now in
    key_there g.N.Naming.program c.args.shared.now.tree.now s.pass c.args.hand.now.branch s.stack.items c.key-in-OverLimit.result.now
    c.key-in-OverLimit.ensures c.requires.ready.works.has

pub returns-in-Failed-clause-at_work : goal.returns-in-Failed-clause-at_work
returns-in-Failed-clause-at_work g c =
    let P : NamedProgram = g.N.Naming.program in
    let tree = c.args.shared.now.tree.now in
    let s = c.args.self.now in
    let h = c.args.hand.now in
    let n = c.count_failed.ensures in
    record {
      at_work = left_at_work P tree c.retire.new.pass c.count_failed.new.self h s.stack s.stack refl c.requires.ready.served
          (failed_works P tree (is_last c.retire.result) s.pass c.retire.new.pass s.found c.count_failed.new.self h.branch
          c.key.result.now s.stack.items c.requires.ready.works
          (state_told P h.branch c.args.state told.Failed c.in-Failed.is c.requires.state) n.failed n.forks n.rest c.key.ensures c.retire.ensures);
      shares = ended_shares s.found c.count_failed.new.self h n.rest.1 c.requires.ready.shares;
    }

pub returns-in-Failed-clause-has : goal.returns-in-Failed-clause-has
returns-in-Failed-clause-has g c = (returns-in-Failed-clause-at_work g c).at_work.works.has

pub returns-in-OverLimit-clause-at_work : goal.returns-in-OverLimit-clause-at_work
returns-in-OverLimit-clause-at_work g c =
    let P : NamedProgram = g.N.Naming.program in
    let tree = c.args.shared.now.tree.now in
    let s = c.args.self.now in
    let h = c.args.hand.now in
    let kept = c.keep_cut.ensures in
    record {
      at_work = left_at_work P tree c.retire-in-OverLimit.new.pass c.keep_cut.new.self h s.stack s.stack refl c.requires.ready.served
          (cut_works P tree (is_last c.retire-in-OverLimit.result) s.pass c.retire-in-OverLimit.new.pass s.found c.keep_cut.new.self
          h.branch c.key-in-OverLimit.result.now s.stack.items c.in-OverLimit.cut c.requires.ready.works
          (state_told P h.branch c.args.state (told.OverLimit c.in-OverLimit.cut) c.in-OverLimit.is c.requires.state)
          (record { entries = kept.rest; forks = kept.counts.0; failed = kept.counts.1 }) kept.cut c.key-in-OverLimit.ensures
          c.retire-in-OverLimit.ensures);
      shares = ended_shares s.found c.keep_cut.new.self h kept.rest c.requires.ready.shares;
    }

pub returns-in-OverLimit-clause-has : goal.returns-in-OverLimit-clause-has
returns-in-OverLimit-clause-has g c = (returns-in-OverLimit-clause-at_work g c).at_work.works.has

pub fork-requires-clause-state : goal.fork-requires-clause-state
fork-requires-clause-state g c κs within =
    state_told g.N.Naming.program c.args.hand.now.branch c.args.state (told.Fork c.in-Fork.goal c.in-Fork.clauses c.in-Fork.cut) c.in-Fork.is
    c.requires.state

pub tell-requires-clause-state : goal.tell-requires-clause-state
tell-requires-clause-state g c κs within =
    state_told g.N.Naming.program c.args.hand.now.branch c.args.state told.Answer c.in-Answer.is c.requires.state

pub tell-requires-clause-ended : goal.tell-requires-clause-ended
tell-requires-clause-ended g c κs within =
    let P : NamedProgram = g.N.Naming.program in
    let b = c.args.hand.now.branch in
    let stands = c.requires.ready.works.has.tasks_are.0 in
    let state = state_told P b c.args.state told.Answer c.in-Answer.is c.requires.state in
    has_answered P b c.args.state stands.tree stands.branch c.in-Answer.is (state stands.tree stands.branch) c.requires.at_rest

pub invariant_of-self : goal.invariant_of-self
invariant_of-self g c =
    let s = c.args.self.now in
    record {
      number_is = c.retire.ensures.team ∙ s.number_is;
      left_shares = none_shares c.count_failed.new.self s.common s.left c.requires.none;
    }

pub invariant_of-self-in-OverLimit : goal.invariant_of-self-in-OverLimit
invariant_of-self-in-OverLimit g c =
    let s = c.args.self.now in
    record {
      number_is = c.retire-in-OverLimit.ensures.team ∙ s.number_is;
      left_shares = none_shares c.keep_cut.new.self s.common s.left c.requires.none;
    }
