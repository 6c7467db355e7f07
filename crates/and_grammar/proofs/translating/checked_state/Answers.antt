use Rattle.std.proofs.Common.{true, sym}
use Rattle.and_grammar.specs.Views.{term_at, body_at}
use Rattle.and_grammar.proofs.TranslateLemmas.{no_fault}
use Rattle.and_grammar.proofs.translating.checked_state.Goals as goal

pub returns-in-Some-clause-ok : goal.returns-in-Some-clause-ok
returns-in-Some-clause-ok c =
    let h = term_at c.args.rule.now c.args.head in
    let b = body_at c.args.rule.now c.args.body in
    no_fault h b (c.is_sound_head.ensures.head c.if-is_sound_head.true) (c.is_sound_head.ensures.narrow c.if-is_sound_head.true)
    c.in-Some.ensures.pure c.in-Some.ensures.narrow

pub returns-in-Some-clause-state : goal.returns-in-Some-clause-state
returns-in-Some-clause-state c = sym c.in-Some.ensures.behind
