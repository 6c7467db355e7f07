use Rattle.std.proofs.Common.{ap, sym, ◌∙◌, subst, arith}
use Rattle.and_translation.specs.Bodies.{body_of}
use Rattle.and_drafts.specs.Drafts.{read_part}
use Rattle.and_drafts.proofs.Telling.{variable_read, integer_read, compound_read, arguments_fall}
use Rattle.and_grammar.specs.declared.bodies.BodyPart.{BodyPart}
use Rattle.and_grammar.specs.Views.{body_at, IsBody, named_part}
use Rattle.and_grammar.proofs.Viewing.{named_is_body, below_all, same_arguments}
use Rattle.and_grammar.proofs.bodies.body_part.Goals as goal

pub named_body-requires : goal.named_body-requires
named_body-requires c =
    below_all c.args.place _ _ (same_arguments _ _ _ c.arguments.ensures (arguments_fall c.args.rule.now c.args.place c.requires)) (omega arith)

pub returns-in-Variable : goal.returns-in-Variable
returns-in-Variable c = ap body_of
    (variable_read c.args.rule.now c.args.place _ c.requires c.in-Variable.number c.in-Variable.name.now (ap read_part (sym c.in-Variable.is) ∙ c.part.ensures))

pub returns-in-Integer : goal.returns-in-Integer
returns-in-Integer c = ap body_of
    (integer_read c.args.rule.now c.args.place _ c.requires c.in-Integer.field-0 (ap read_part (sym c.in-Integer.is) ∙ c.part.ensures))

pub returns-in-Compound : goal.returns-in-Compound
returns-in-Compound c =
    let fall = arguments_fall c.args.rule.now c.args.place c.requires in
    let read = compound_read c.args.rule.now c.args.place _ c.requires c.in-Compound.count c.in-Compound.name.now (ap read_part (sym c.in-Compound.is)
    ∙ c.part.ensures) in
    subst (λ (p : BodyPart). IsBody c.args.rule.now c.args.place p (body_at c.args.rule.now c.args.place))
    (sym (c.named_body.ensures ∙ ap (named_part c.args.rule.now c.in-Compound.name.now) c.arguments.ensures))
    (named_is_body c.args.rule.now c.args.place c.in-Compound.name.now _ read.1 fall)
