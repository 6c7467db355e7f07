use Rattle.std.proofs.Common.{ap, sym, ◌∙◌}
use Rattle.and_drafts.specs.Drafts.{read_part}
use Rattle.and_drafts.proofs.Telling.{variable_read, integer_read, compound_read}
use Rattle.and_grammar.specs.Views.{is_nil, nil_part}
use Rattle.and_grammar.proofs.Viewing.{named_is_nil}
use Rattle.and_grammar.proofs.bodies.is_empty_list.Goals as goal

pub returns-in-Variable : goal.returns-in-Variable
returns-in-Variable c = sym
    (ap is_nil (variable_read c.args.rule.now c.args.place _ c.requires c.in-Variable.number c.in-Variable.name.now
    (ap read_part (sym c.in-Variable.is) ∙ c.part.ensures)))

pub returns-in-Integer : goal.returns-in-Integer
returns-in-Integer c = sym
    (ap is_nil (integer_read c.args.rule.now c.args.place _ c.requires c.in-Integer.field-0 (ap read_part (sym c.in-Integer.is) ∙ c.part.ensures)))

pub returns-in-Compound : goal.returns-in-Compound
returns-in-Compound c =
    let read = compound_read c.args.rule.now c.args.place _ c.requires c.in-Compound.count c.in-Compound.name.now (ap read_part (sym c.in-Compound.is)
    ∙ c.part.ensures) in
    c.is_empty_name.ensures ∙ ap (nil_part c.in-Compound.name.now) c.arguments.ensures
    ∙ named_is_nil c.args.rule.now c.args.place c.in-Compound.name.now _ read.1
