use Rattle.std.proofs.Common.{◌∷◌, reverse}
use Rattle.std.proofs.lemmas.Result.{on_ok_weaker}
use Rattle.and_cells.specs.Ranges.{NamedProgram}
use Rattle.and_visit.specs.Walking.{One, places_of, turns}
use Rattle.and_visit.proofs.Going.{ready_advanced, turns_advanced, after_within}
use Rattle.and_visit.proofs.walker.Walker.explore.Goals as goal

pub go_by-requires-clause-ready : goal.go_by-requires-clause-ready
go_by-requires-clause-ready g c κs within =
    let s = c.args.self.now in
    ready_advanced g.N.Naming.program s.limit (g.V.Visitor.has_seen s.visitor) (reverse s.stack.items) c.args.hand.now
    c.advance_to_state.new.self c.requires.ready c.advance_to_state.ensures.same c.in_ok-state.ensures.steps c.in_ok-state.ensures.back

pub returns-clause-after : goal.returns-clause-after
returns-clause-after g c =
    let P : NamedProgram = g.N.Naming.program in
    let s = c.args.self.now in
    let h = c.args.hand.now in
    let n = c.go_by.new.self in
    let Seen = g.V.Visitor.has_seen n.visitor in
    let levels = reverse s.stack.items in
    let low = turns s.limit (One h.depth c.advance_to_state.new.self ∷ places_of levels) in
    let high = turns s.limit (One h.depth h.branch ∷ places_of levels) in
    on_ok_weaker c.go_by.result (after_within P s.limit low high Seen (reverse n.stack.items) c.go_by.new.hand.branch
    (turns_advanced P s.limit (g.V.Visitor.has_seen s.visitor) levels h c.advance_to_state.new.self c.requires.ready
    c.advance_to_state.ensures.same c.in_ok-state.ensures.steps)) c.go_by.ensures.after
