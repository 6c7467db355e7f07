use Rattle.std.proofs.Common.{◌∙◌, ap, map}
use Rattle.and_modes.specs.Walked.{unframed}
use Rattle.and_program.specs.Loaded.{skeleton_of}
use Rattle.and_program.specs.Skeletons.{node_term}
use Rattle.and_modes.specs.Known.{environment}
use Rattle.and_modes.proofs.Knowing.{raised_atom, raised_variable, raised_compound}
use Rattle.and_modes.proofs.known.Known.raise.Goals as goal

pub returns-in-Variable : goal.returns-in-Variable
returns-in-Variable c =
    raised_variable (skeleton_of c.args.loaded.now).nodes c.args.node.0 c.in-Variable.number (environment c.args.self.now.levels)
    (environment c.raise_variable.new.self.levels) c.args.level
    c.args.loaded.now.kept.falls c.requires c.in-Variable.ensures.shape c.raise_variable.ensures

pub returns-in_ok-found-in-Compound : goal.returns-in_ok-found-in-Compound
returns-in_ok-found-in-Compound c =
    raised_compound (skeleton_of c.args.loaded.now).nodes c.args.node.0 c.in-Compound.name c.in-Compound.count (environment c.args.self.now.levels)
    (environment c.raise_variables.new.self.levels)
    c.deref.result.now c.args.level c.inside.result c.args.loaded.now.kept.falls c.requires c.in-Compound.ensures.shape
    (ap (map unframed) c.deref.ensures.value ∙ c.in_ok-found-in-Compound.ensures) c.inside.ensures c.raise_variables.ensures

pub returns-else-count-gt0 : goal.returns-else-count-gt0
returns-else-count-gt0 c =
    raised_atom (node_term (skeleton_of c.args.loaded.now).nodes c.args.node.0) c.in-Compound.name c.in-Compound.count
    (environment c.args.self.now.levels) c.args.level c.in-Compound.ensures.term c.if-count-gt0.false
