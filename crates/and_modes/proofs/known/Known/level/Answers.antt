use Rattle.std.proofs.Common.{◌∙◌, ap, map}
use Rattle.and_modes.specs.Walked.{unframed}
use Rattle.and_program.specs.Loaded.{skeleton_of}
use Rattle.and_program.specs.Skeletons.{node_term}
use Rattle.and_modes.specs.Known.{environment}
use Rattle.and_modes.proofs.Knowing.{level_of_atom, level_of_variable, level_of_number, level_of_compound}
use Rattle.and_modes.proofs.known.Known.level.Goals as goal

pub returns-in-Variable : goal.returns-in-Variable
returns-in-Variable c =
    c.of_variable.ensures
    ∙ level_of_variable (skeleton_of c.args.loaded.now).nodes c.args.node.0 c.in-Variable.number (environment c.args.self.now.levels)
    c.args.loaded.now.kept.falls c.requires c.in-Variable.ensures.shape

pub returns-in-Number : goal.returns-in-Number
returns-in-Number c =
    level_of_number (skeleton_of c.args.loaded.now).nodes c.args.node.0 c.in-Number.field-0 (environment c.args.self.now.levels)
    c.args.loaded.now.kept.falls c.requires c.in-Number.ensures.shape

pub returns-in_ok-found-in-Compound : goal.returns-in_ok-found-in-Compound
returns-in_ok-found-in-Compound c =
    c.level_of_all.ensures
    ∙ level_of_compound (skeleton_of c.args.loaded.now).nodes c.args.node.0 c.in-Compound.name c.in-Compound.count
    (environment c.args.self.now.levels) c.deref.result.now
    c.args.loaded.now.kept.falls c.requires c.in-Compound.ensures.shape (ap (map unframed) c.deref.ensures.value ∙ c.in_ok-found-in-Compound.ensures)

pub returns-then-count-eq0 : goal.returns-then-count-eq0
returns-then-count-eq0 c =
    level_of_atom (node_term (skeleton_of c.args.loaded.now).nodes c.args.node.0) c.in-Compound.name c.in-Compound.count
    (environment c.args.self.now.levels) c.in-Compound.ensures.term c.if-count-eq0.true
