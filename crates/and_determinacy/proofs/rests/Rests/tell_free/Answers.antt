use Rattle.std.proofs.Common.{◌<◌, length, refl, subst}
use Rattle.and_cells.specs.Ranges.{NamedProgram}
use Rattle.and_determinacy.proofs.rests.Rests.tell_free.Goals as goal

pub list_free-requires-clause-there : goal.list_free-requires-clause-there
list_free-requires-clause-there g c =
    subst (λ (Q : NamedProgram). c.args.node.0 < length Q.skeleton.nodes) c.requires.program c.requires.in_range.0.there

pub list_free-requires-clause-base : goal.list_free-requires-clause-base
list_free-requires-clause-base g c = c.requires.in_range.0.base_below

pub returns : goal.returns
returns g c = λ is. (c.list_free.new.out.items, refl, c.list_free.ensures is)
