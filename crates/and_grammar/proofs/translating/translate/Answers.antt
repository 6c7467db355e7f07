use Rattle.std.proofs.Common.{arith, get_or}
use Rattle.and_drafts.specs.Drafts.{draft_of}
use Rattle.and_grammar.specs.Views.{term_at}
use Rattle.and_grammar.proofs.TranslateLemmas.{whole_term, rule_whole, rule_sides, sides_answer}
use Rattle.and_grammar.proofs.translating.translate.Goals as goal

pub overflow_sub-root : goal.overflow_sub-root
overflow_sub-root c =
    omega (arith, (whole_term c.args.rule.now (rule_whole (draft_of c.args.rule.now).finished c.requires)).0, c.part_count-root.ensures)

pub arguments-requires : goal.arguments-requires
arguments-requires c =
    omega (arith, (whole_term c.args.rule.now (rule_whole (draft_of c.args.rule.now).finished c.requires)).0, c.part_count-root.ensures)

pub translate_sides-requires : goal.translate_sides-requires
translate_sides-requires c =
    let s = rule_sides c.args.rule.now c.part_count-root.result c.arguments.result.now c.requires c.part_count-root.ensures c.arguments.ensures
    c.in-len2.len_at_least c.in-len2.len_below in
    record { head = s.low; body = s.high }

pub returns-in-len2 : goal.returns-in-len2
returns-in-len2 c =
    let s = rule_sides c.args.rule.now c.part_count-root.result c.arguments.result.now c.requires c.part_count-root.ensures c.arguments.ensures
    c.in-len2.len_at_least c.in-len2.len_below in
    sides_answer c.args.rule.now c.translate_sides.result (term_at c.args.rule.now (get_or c.arguments.result.now 0 0))
    (term_at c.args.rule.now (get_or c.arguments.result.now 1 0)) s.rule c.translate_sides.ensures
