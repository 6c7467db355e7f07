use Rattle.std.proofs.Common.{subst}
use Rattle.and_branch_parts.specs.Finding.{HasFound}
use Rattle.and_branch_parts.specs.declared.finding.RoundSoFar.{RoundSoFar}
use Rattle.and_branch_parts.proofs.LoadedPrograms.{is_loaded}
use Rattle.and_branch.proofs.StatesFound.{told_heavy}
use Rattle.and_branch.proofs.branch.Branch.told.Goals as goal

pub returns-in_ok-cut-in-Heavy-clause-judged : goal.returns-in_ok-cut-in-Heavy-clause-judged
returns-in_ok-cut-in-Heavy-clause-judged g c = λ t x.
    let P = g.N.Naming.program in
    let b = c.args.self.now in
    let says = c.skeleton_is_of_the_program.ensures in
    let loaded = is_loaded P c.args.loaded.now c.requires.program says.skeleton says.own_variables says.few in
    let found = subst (λ (f : RoundSoFar). HasFound P b.limit b.row b.left f) c.in-Heavy.is c.requires.found in
    let cut = c.in_ok-cut-in-Heavy.ensures in
    told_heavy P loaded b t x c.requires.live c.requires.rests c.in-Heavy.goal c.in-Heavy.clause found c.in_ok-cut-in-Heavy.cut cut.partial
    cut.goal cut.clause
