use Rattle.std.proofs.Common.{◌≡◌, ◌∙◌, ◌&&◌, Bool, true, false, eqb, ap, sym, arith}
use Rattle.std.proofs.lemmas.Bool.{and_parts, eqb-true}
use Rattle.and_program.specs.Loaded.{skeleton_of}
use Rattle.and_program.specs.Skeletons.{node_term}
use Rattle.and_program.specs.Shown.{argument_of}
use Rattle.and_lint.specs.Subterms.{is_division, is_numeral_zero}
use Rattle.and_lint.proofs.operators.is_division_by_zero.Goals as goal

pub argument-requires : goal.argument-requires
argument-requires c =
    let yes : eqb c.args.count 2 && is_division c.args.name.0 ≡ true = sym c.is_binary_division.ensures ∙ c.if-is_binary_division.true in
    let two = eqb-true c.args.count 2 (and_parts (eqb c.args.count 2) (is_division c.args.name.0) yes).0 in
    let long = c.requires.count in
    record { there = c.requires.there; place = omega arith }

pub returns-then-is_binary_division : goal.returns-then-is_binary_division
returns-then-is_binary_division c =
    let yes : eqb c.args.count 2 && is_division c.args.name.0 ≡ true = sym c.is_binary_division.ensures ∙ c.if-is_binary_division.true in
    c.is_numeral_zero.ensures ∙ ap is_numeral_zero c.argument.ensures.term
    ∙ sym (ap (λ (b : Bool). b && is_numeral_zero (argument_of (node_term (skeleton_of c.args.loaded.now).nodes c.args.node.0) 1)) yes)

pub returns : goal.returns
returns c =
    let not_so : eqb c.args.count 2 && is_division c.args.name.0 ≡ false = sym c.is_binary_division.ensures ∙ c.if-is_binary_division.false in
    sym (ap (λ (b : Bool). b && is_numeral_zero (argument_of (node_term (skeleton_of c.args.loaded.now).nodes c.args.node.0) 1)) not_so)
