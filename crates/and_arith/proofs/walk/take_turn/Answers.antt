use Rattle.std.proofs.Common.{ℕ, suc, ◌-◌, ◌≡◌, subst, arith, reverse}
use Rattle.and_arith.specs.Turns.{stand, Enters, enters, leaves, keeps}
use Rattle.and_arith.proofs.Stepping.{after_ok, on_both, next_task}
use Rattle.and_arith.proofs.Members.{first_of}
use Rattle.and_arith.proofs.walk.take_turn.Goals as goal

pub enter-requires-clause-in_range : goal.enter-requires-clause-in_range
enter-requires-clause-in_range g c =
    let next = next_task _ _ _ _ c.in-Some-Enter.ensures.items c.in-Some-Enter.field-0-is in
    (c.requires.ready.enters c.in-Some-Enter.part (first_of _ _ _ next)).0

pub enter-requires-clause-written : goal.enter-requires-clause-written
enter-requires-clause-written g c =
    let next = next_task _ _ _ _ c.in-Some-Enter.ensures.items c.in-Some-Enter.field-0-is in
    (c.requires.ready.enters c.in-Some-Enter.part (first_of _ _ _ next)).1

pub keep-requires-clause-taken : goal.keep-requires-clause-taken
keep-requires-clause-taken g c =
    let next = next_task _ _ _ _ c.in-Some-Keep.ensures.items c.in-Some-Keep.field-0-is in
    c.requires.ready.keeps c.in-Some-Keep.cell (first_of _ _ _ next)

pub returns-else-fuel-eq0-clause-again : goal.returns-else-fuel-eq0-clause-again
returns-else-fuel-eq0-clause-again g c = λ is.
    let next = next_task _ _ _ _ c.in-Some-Enter.ensures.items c.in-Some-Enter.field-0-is in
    let left : ℕ = c.args.fuel.now - 1 in
    let one : suc left ≡ c.args.fuel.now = omega (arith, c.if-fuel-eq0.false) in
    let old = stand (g.C.Cells.seen c.args.cells.now) c.args.work.now c.args.fuel.now in
    enters c.in-Some-Enter.part (reverse c.pop.new.self.items) next
    (subst (λ n. Enters g.C.Cells.program c.in-Some-Enter.part (record old { tasks = reverse c.pop.new.self.items; fuel = n })
    (stand (g.C.Cells.seen c.enter.new.cells) c.enter.new.work left)) one
    (c.enter.ensures.again is left))

pub returns-in-Some-Leave-clause-again : goal.returns-in-Some-Leave-clause-again
returns-in-Some-Leave-clause-again g c = λ is.
    let next = next_task _ _ _ _ c.in-Some-Leave.ensures.items c.in-Some-Leave.field-0-is in
    let s = g.C.Cells.seen c.args.cells.now in
    leaves c.in-Some-Leave.name.0 c.in-Some-Leave.count _ next
    (after_ok c.leave.result c.after.result _ c.after.ensures.err is
    (on_both c.leave.result _ _ _ (λ gone other. gone s c.args.fuel.now) c.leave.ensures c.leave.ensures))

pub returns-in-Some-Keep-clause-again : goal.returns-in-Some-Keep-clause-again
returns-in-Some-Keep-clause-again g c = λ is.
    let next = next_task _ _ _ _ c.in-Some-Keep.ensures.items c.in-Some-Keep.field-0-is in
    keeps c.in-Some-Keep.cell _ next (c.keep.ensures (g.C.Cells.seen c.args.cells.now) c.args.fuel.now)
