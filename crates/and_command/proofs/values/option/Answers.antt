use Rattle.std.proofs.Common.{◌∙◌}
use Rattle.clap.specs.Words.{new_rule}
use Rattle.and_command.specs.Values.{any_number}
use Rattle.and_command.proofs.ReaderLemmas.{with_long, with_parser}
use Rattle.and_command.proofs.values.option.Goals as goal

pub returns : goal.returns
returns c =
    let given = c.value_parser-2.ensures.given in
    let long = with_long c.new.result c.long.result (new_rule c.args.name.now) _ c.long.ensures (c.new.ensures.rule, c.new.ensures.optional.1) in
    with_parser c.long.result c.value_parser-2.result _ given.0 any_number c.value_parser-2.ensures.others given.1 (given.2 ∙ c.value_parser.ensures) long
