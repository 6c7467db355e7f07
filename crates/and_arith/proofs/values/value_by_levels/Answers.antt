use Rattle.std.proofs.Common.{sym, subst}
use Rattle.and_program.specs.Skeletons.{AllFall}
use Rattle.and_cells.specs.Ranges.{NamedProgram}
use Rattle.and_arith.proofs.Telling.{told_value, told_waits}
use Rattle.and_arith.proofs.values.value_by_levels.Goals as goal

pub glance-told-requires-clause-falls : goal.glance-told-requires-clause-falls
glance-told-requires-clause-falls g c =
    subst (λ (Q : NamedProgram). AllFall 0 Q.skeleton.nodes) (sym c.requires.program) c.skeleton_is_of_the_program.ensures.skeleton.0

pub returns-in-Number-clause-number : goal.returns-in-Number-clause-number
returns-in-Number-clause-number g c = λ z is.
    told_value g.N.Naming.program c.args.cells.now c.args.expression c.glance-told.result z is c.glance-told.ensures

pub returns-in-Waits-clause-waits : goal.returns-in-Waits-clause-waits
returns-in-Waits-clause-waits g c = λ cell is.
    told_waits g.N.Naming.program c.args.cells.now c.args.expression c.glance-told.result cell is c.glance-told.ensures
