use Rattle.std.proofs.Common.{ap₂, codes, ◌∙◌}
use Rattle.std.proofs.lemmas.Result.{IfOk-weaker}
use Rattle.clap.specs.Words.{new_rule, with_rule}
use Rattle.clap.specs.declared.builder.action.ArgAction.TheVariants.{SetTrue}
use Rattle.and_command.specs.Values.{any_number}
use Rattle.and_command.proofs.ReaderLemmas.{with_long, with_action, with_parser}
use Rattle.and_command.proofs.values.reader.Goals as goal

pub returns : goal.returns
returns c =
    let given = c.value_parser-number.ensures.given in
    let number = with_parser c.new.result c.value_parser-number.result (new_rule (codes "number")) given.0 any_number
    c.value_parser-number.ensures.others given.1 (given.2 ∙ c.value_parser.ensures) (c.new.ensures.rule, c.new.ensures.optional.1) in
    let long_stats = with_long c.new-2.result c.long.result (new_rule (codes "stats")) _ c.long.ensures
    (c.new-2.ensures.rule, c.new-2.ensures.optional.1) in
    let stats = with_action c.long.result c.action-stats.result _ SetTrue c.action-stats.ensures long_stats in
    let limit = c.option-limit.ensures in
    let jobs = c.option-jobs.ensures in
    let teams = c.option-teams.ensures in
    let workers = c.option-workers.ensures in
    let first = c.in_ok-arg.ensures.shape number.1 ∙ ap₂ with_rule c.new-3.ensures.app number.0 in
    let second = c.in_ok-arg-2.ensures.shape limit.1 ∙ ap₂ with_rule first limit.0 in
    let third = c.in_ok-arg-3.ensures.shape jobs.1 ∙ ap₂ with_rule second jobs.0 in
    let fourth = c.in_ok-arg-4.ensures.shape teams.1 ∙ ap₂ with_rule third teams.0 in
    let fifth = c.in_ok-arg-5.ensures.shape workers.1 ∙ ap₂ with_rule fourth workers.0 in
    IfOk-weaker c.arg-6.result _ _ (λ r adds. adds.shape stats.1 ∙ ap₂ with_rule fifth stats.0) c.arg-6.ensures
