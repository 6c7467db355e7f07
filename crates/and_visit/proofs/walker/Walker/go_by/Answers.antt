use Rattle.std.proofs.Common.{reverse}
use Rattle.and_cells.specs.Ranges.{NamedProgram}
use Rattle.and_branch.specs.declared.state.BranchState.TheVariants as told
use Rattle.and_branch.proofs.StatesTold.{state_told, has_floundered, has_answered}
use Rattle.and_visit.proofs.Going.{tree_there}
use Rattle.and_visit.proofs.walker.Walker.go_by.Goals as goal

pub fork-requires-clause-state : goal.fork-requires-clause-state
fork-requires-clause-state g c =
    state_told g.N.Naming.program c.args.hand.now.branch c.args.state (told.Fork c.in-Fork.goal c.in-Fork.clauses c.in-Fork.cut) c.in-Fork.is
    c.requires.state

pub end-requires-clause-state : goal.end-requires-clause-state
end-requires-clause-state g c κs within =
    state_told g.N.Naming.program c.args.hand.now.branch c.args.state told.Answer c.in-Answer.is c.requires.state

pub end-requires-clause-ended : goal.end-requires-clause-ended
end-requires-clause-ended g c κs within =
    let P : NamedProgram = g.N.Naming.program in
    let s = c.args.self.now in
    let there = tree_there P s.limit (g.V.Visitor.has_seen s.visitor) (reverse s.stack.items) c.args.hand.now c.requires.ready in
    let state = state_told P c.args.hand.now.branch c.args.state told.Answer c.in-Answer.is c.requires.state in
    has_answered P c.args.hand.now.branch c.args.state there.0 there.1 c.in-Answer.is (state there.0 there.1) c.requires.at_rest

pub end-requires-in-Floundered-clause-state : goal.end-requires-in-Floundered-clause-state
end-requires-in-Floundered-clause-state g c κs within =
    state_told g.N.Naming.program c.args.hand.now.branch c.args.state told.Floundered c.in-Floundered.is c.requires.state

pub end-requires-in-Floundered-clause-ended : goal.end-requires-in-Floundered-clause-ended
end-requires-in-Floundered-clause-ended g c κs within =
    let P : NamedProgram = g.N.Naming.program in
    let s = c.args.self.now in
    let there = tree_there P s.limit (g.V.Visitor.has_seen s.visitor) (reverse s.stack.items) c.args.hand.now c.requires.ready in
    let state = state_told P c.args.hand.now.branch c.args.state told.Floundered c.in-Floundered.is c.requires.state in
    has_floundered P c.args.hand.now.branch c.args.state there.0 there.1 c.in-Floundered.is (state there.0 there.1) c.requires.at_rest

pub fail-requires-clause-dead : goal.fail-requires-clause-dead
fail-requires-clause-dead g c =
    state_told g.N.Naming.program c.args.hand.now.branch c.args.state told.Failed c.in-Failed.is c.requires.state

pub over-requires-clause-state : goal.over-requires-clause-state
over-requires-clause-state g c =
    state_told g.N.Naming.program c.args.hand.now.branch c.args.state (told.OverLimit c.in-OverLimit.cut) c.in-OverLimit.is c.requires.state
