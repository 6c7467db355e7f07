use Rattle.std.proofs.Common.{Option, refl, ap, sym, ◌∙◌, subst}
use Rattle.and_syntax.specs.Written.{variable, integer}
use Rattle.and_drafts.specs.Drafts.{read_part}
use Rattle.and_drafts.proofs.Telling.{variable_read, integer_read, compound_read, arguments_fall}
use Rattle.and_grammar.specs.declared.bodies.Cell.{Cell}
use Rattle.and_grammar.specs.Views.{IsCell, cell_part}
use Rattle.and_grammar.proofs.Viewing.{no_cell, named_is_cell}
use Rattle.and_grammar.proofs.bodies.cell_at.Goals as goal

pub returns-in-Variable : goal.returns-in-Variable
returns-in-Variable c = no_cell c.args.rule.now c.args.place (variable c.in-Variable.name.now) refl
    (variable_read c.args.rule.now c.args.place _ c.requires c.in-Variable.number c.in-Variable.name.now (ap read_part (sym c.in-Variable.is) ∙ c.part.ensures))

pub returns-in-Integer : goal.returns-in-Integer
returns-in-Integer c = no_cell c.args.rule.now c.args.place (integer c.in-Integer.field-0) refl
    (integer_read c.args.rule.now c.args.place _ c.requires c.in-Integer.field-0 (ap read_part (sym c.in-Integer.is) ∙ c.part.ensures))

pub returns-in-Compound : goal.returns-in-Compound
returns-in-Compound c =
    let fall = arguments_fall c.args.rule.now c.args.place c.requires in
    let read = compound_read c.args.rule.now c.args.place _ c.requires c.in-Compound.count c.in-Compound.name.now (ap read_part (sym c.in-Compound.is)
    ∙ c.part.ensures) in
    subst (λ (o : Option Cell). IsCell c.args.rule.now c.args.place o) (sym (c.named_cell.ensures ∙ ap (cell_part c.in-Compound.name.now) c.arguments.ensures))
    (named_is_cell c.args.rule.now c.args.place c.in-Compound.name.now _ read.1 fall)
