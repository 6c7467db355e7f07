use Rattle.std.proofs.Common.{◌∙◌, ap, rules}
use Rattle.and_program.specs.Loaded.{skeleton_of}
use Rattle.and_program.specs.Skeletons.{node_term}
use Rattle.and_lint.proofs.Faces.{zero_kind, zero_shown}
use Rattle.std.specs.Prelude.{FitsSigned}
use Rattle.std.specs.Int.{w64}
use Rattle.std.proofs.lemmas.Int.{ints, to_z-of_z}
use Rattle.and_lint.proofs.operators.is_numeral_zero.Goals as goal

pub returns-in-Variable : goal.returns-in-Variable
returns-in-Variable c = ap zero_kind c.in-Variable.ensures.term ∙ zero_shown (node_term (skeleton_of c.args.loaded.now).nodes c.args.node.0)

pub returns-in-Compound : goal.returns-in-Compound
returns-in-Compound c = ap zero_kind c.in-Compound.ensures.term ∙ zero_shown (node_term (skeleton_of c.args.loaded.now).nodes c.args.node.0)

pub returns-in-Number : goal.returns-in-Number
returns-in-Number c =
    let fits : FitsSigned w64 c.in-Number.value = search (rules, ints) in
    (rw to_z-of_z at c.is_zero.ensures) ∙ ap zero_kind c.in-Number.ensures.term ∙ zero_shown (node_term (skeleton_of c.args.loaded.now).nodes c.args.node.0)
