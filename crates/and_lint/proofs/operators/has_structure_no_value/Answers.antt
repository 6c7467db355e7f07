use Rattle.std.proofs.Common.{◌≡◌, ◌∙◌, ◌&&◌, ◌||◌, not, Bool, true, false, eqb, ap, sym}
use Rattle.and_program.specs.Loaded.{skeleton_of}
use Rattle.and_program.specs.Skeletons.{node_term}
use Rattle.and_program.specs.Shown.{argument_of}
use Rattle.and_model.specs.Arithmetic.{is_operation}
use Rattle.and_lint.specs.Subterms.{is_division, is_numeral_zero}
use Rattle.and_lint.proofs.operators.has_structure_no_value.Goals as goal

pub returns-then-is_operation : goal.returns-then-is_operation
returns-then-is_operation c =
    let yes : is_operation c.args.name.0 c.args.count ≡ true = sym c.is_operation.ensures ∙ c.if-is_operation.true in
    c.is_division_by_zero.ensures
    ∙ sym (ap (λ (b : Bool). not b
    || (eqb c.args.count 2 && is_division c.args.name.0 && is_numeral_zero (argument_of (node_term (skeleton_of c.args.loaded.now).nodes c.args.node.0) 1)))
    yes)

pub returns : goal.returns
returns c =
    let not_so : is_operation c.args.name.0 c.args.count ≡ false = sym c.is_operation.ensures ∙ c.if-is_operation.false in
    sym (ap (λ (b : Bool). not b
    || (eqb c.args.count 2 && is_division c.args.name.0 && is_numeral_zero (argument_of (node_term (skeleton_of c.args.loaded.now).nodes c.args.node.0) 1)))
    not_so)
