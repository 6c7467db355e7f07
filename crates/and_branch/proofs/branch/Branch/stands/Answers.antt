use Rattle.and_branch_parts.proofs.LoadedPrograms.{is_loaded}
use Rattle.and_branch_parts.proofs.StandingBranches.{branch_stands}
use Rattle.and_branch.proofs.branch.Branch.stands.Goals as goal

pub returns : goal.returns
returns g c =
    let P = g.N.Naming.program in
    let says = c.skeleton_is_of_the_program.ensures in
    let loaded = is_loaded P c.args.loaded.now c.requires.program says.skeleton says.own_variables says.few in
    branch_stands P loaded c.args.self.now c.requires.branch.0 c.requires.branch.1
