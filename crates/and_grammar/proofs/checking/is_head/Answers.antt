use Rattle.std.proofs.Common.{ap, sym, ◌∙◌}
use Rattle.and_translation.specs.Bodies.{is_head}
use Rattle.and_drafts.proofs.Telling.{variable_read, integer_read, compound_read}
use Rattle.and_grammar.specs.Checked.{head_part}
use Rattle.and_grammar.proofs.Looking.{named_is_head}
use Rattle.and_grammar.proofs.checking.is_head.Goals as goal

pub returns-in-Variable : goal.returns-in-Variable
returns-in-Variable c = sym
    (ap is_head (variable_read c.args.rule.now c.args.head _ c.requires c.in-Variable.number c.in-Variable.name.now c.in-Variable.ensures))

pub returns-in-Integer : goal.returns-in-Integer
returns-in-Integer c = sym (ap is_head (integer_read c.args.rule.now c.args.head _ c.requires c.in-Integer.field-0 c.in-Integer.ensures))

pub returns-in-Compound : goal.returns-in-Compound
returns-in-Compound c =
    let read = compound_read c.args.rule.now c.args.head _ c.requires c.in-Compound.count c.in-Compound.name.now c.in-Compound.ensures in
    c.is_head_name.ensures ∙ ap (head_part c.in-Compound.name.now) c.arguments.ensures
    ∙ named_is_head c.args.rule.now c.args.head c.in-Compound.name.now _ read.1
