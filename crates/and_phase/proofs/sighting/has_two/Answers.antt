use Rattle.std.proofs.Common.{◌∙◌, sym}
use Rattle.and_branch.proofs.LoadedPrograms.{is_loaded}
use Rattle.and_phase.proofs.Later.{row_settled, row_short, are_seen}
use Rattle.and_phase.proofs.sighting.has_two.Goals as goal

pub are_two-requires-clause-settled : goal.are_two-requires-clause-settled
are_two-requires-clause-settled g c = row_settled g.N.Naming.program c.args.branch.now c.requires.branch (sym c.is_failed.ensures ∙ c.if-is_failed.false)

pub are_two-requires-clause-short : goal.are_two-requires-clause-short
are_two-requires-clause-short g c = row_short g.N.Naming.program c.args.branch.now c.requires.branch (sym c.is_failed.ensures ∙ c.if-is_failed.false)

pub are_two-requires-clause-seen : goal.are_two-requires-clause-seen
are_two-requires-clause-seen g c =
    let P = g.N.Naming.program in
    let s = c.skeleton_is_of_the_program.ensures in
    let loaded = is_loaded P c.args.loaded.now c.requires.program s.skeleton s.own_variables s.few in
    are_seen P c.args.branch.now c.requires.branch (sym c.is_failed.ensures ∙ c.if-is_failed.false) loaded c.as_slice.result.now
    (c.as_slice.ensures.value ∙ c.in_ok-goals.ensures)

pub returns-clause-live : goal.returns-clause-live
returns-clause-live g c = λ _. sym c.is_failed.ensures ∙ c.if-is_failed.false
