use Rattle.std.proofs.Common.{◌∙◌, sym}
use Rattle.and_program.specs.Loaded.{skeleton_of}
use Rattle.and_program.specs.Skeletons.{node_term}
use Rattle.and_lint.proofs.Faces.{number_has_value, structure_has_no_value, variable_has_value}
use Rattle.and_lint.proofs.operators.has_no_value.Goals as goal

pub returns-in-Variable : goal.returns-in-Variable
returns-in-Variable c = variable_has_value (node_term (skeleton_of c.args.loaded.now).nodes c.args.node.0) _ c.in-Variable.ensures.term

pub returns-in-Number : goal.returns-in-Number
returns-in-Number c = number_has_value (node_term (skeleton_of c.args.loaded.now).nodes c.args.node.0) _ c.in-Number.ensures.term

pub returns-in-Compound : goal.returns-in-Compound
returns-in-Compound c =
    c.has_structure_no_value.ensures
    ∙ sym (structure_has_no_value (node_term (skeleton_of c.args.loaded.now).nodes c.args.node.0) c.in-Compound.name c.in-Compound.count
    c.in-Compound.ensures.term)
