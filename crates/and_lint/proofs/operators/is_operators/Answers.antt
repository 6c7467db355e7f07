use Rattle.std.proofs.Common.{◌∙◌, ap}
use Rattle.and_program.specs.Loaded.{skeleton_of}
use Rattle.and_program.specs.Skeletons.{node_term}
use Rattle.and_lint.proofs.Faces.{operators_kind, operators_shown}
use Rattle.and_lint.proofs.operators.is_operators.Goals as goal

pub returns-in-Variable : goal.returns-in-Variable
returns-in-Variable c = ap operators_kind c.in-Variable.ensures.term ∙ operators_shown (node_term (skeleton_of c.args.loaded.now).nodes c.args.node.0)

pub returns-in-Number : goal.returns-in-Number
returns-in-Number c = ap operators_kind c.in-Number.ensures.term ∙ operators_shown (node_term (skeleton_of c.args.loaded.now).nodes c.args.node.0)

pub returns-in-Compound : goal.returns-in-Compound
returns-in-Compound c = c.is_operation.ensures ∙ ap operators_kind c.in-Compound.ensures.term
    ∙ operators_shown (node_term (skeleton_of c.args.loaded.now).nodes c.args.node.0)
