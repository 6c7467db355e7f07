use Rattle.std.proofs.Common.{reverse, arith, ap, ◌∙◌, ◌∷◌, ◌+◌}
use Rattle.and_cells.specs.Ranges.{NamedProgram}
use Rattle.and_code.specs.declared.telling.CodeSoFar.{CodeSoFar}
use Rattle.and_visit.proofs.Going.{fork_asked, depth_below, after_fork}
use Rattle.and_visit.proofs.walker.Walker.fork.Goals as goal

pub overflow_add-depth : goal.overflow_add-depth
overflow_add-depth g c =
    let s = c.args.self.now in
    let shallow = depth_below g.N.Naming.program s.limit (g.V.Visitor.has_seen s.visitor) (reverse s.stack.items) c.args.hand.now
    c.requires.ready in
    omega (arith, shallow)

pub fork_in_place-requires-clause-fork : goal.fork_in_place-requires-clause-fork
fork_in_place-requires-clause-fork g c =
    let s = c.args.self.now in
    fork_asked g.N.Naming.program s.limit (g.V.Visitor.has_seen s.visitor) (reverse s.stack.items) c.args.hand.now c.args.goal
    c.args.clauses c.args.cut c.requires.ready c.requires.state

pub returns-clause-after : goal.returns-clause-after
returns-clause-after g c =
    let P : NamedProgram = g.N.Naming.program in
    let s = c.args.self.now in
    let hand = c.args.hand.now in
    let point = c.in_ok-point.point in
    let forked = c.in_ok-point.ensures in
    let after = after_fork P s.limit (g.V.Visitor.has_seen s.visitor) (g.V.Visitor.has_seen c.see_fork.new.self) (reverse s.stack.items)
    (reverse c.put.new.stack.items) hand c.args.goal c.args.clauses c.args.cut point c.fork_in_place.new.told
    c.fork_in_place.new.self c.requires.ready c.requires.state forked.fork forked.children forked.back forked.told forked.length
    forked.key forked.begins c.in_ok-see_fork.ensures.told (let all = c.len-all.ensures in omega arith) in
    after (c.in_ok-put.ensures
    ∙ ap (λ (t : CodeSoFar). record { point = point; told = t; depth = hand.depth + 1 } ∷ reverse s.stack.items) c.replace-told.ensures.value)
