use Rattle.and_grammar.specs.Views.{term_at, body_at}
use Rattle.and_grammar.proofs.TranslateLemmas.{has_head, sound_sides}
use Rattle.and_grammar.proofs.translating.translate_sides.Goals as goal

pub put_sides-requires-clause-named : goal.put_sides-requires-clause-named
put_sides-requires-clause-named c = has_head (term_at c.args.rule.now c.args.head) (body_at c.args.rule.now c.args.body) c.in_ok-behind.ensures.ok

pub returns-in-Ok : goal.returns-in-Ok
returns-in-Ok c =
    sound_sides c.args.rule.now (term_at c.args.rule.now c.args.head) (body_at c.args.rule.now c.args.body) c.in-Ok.clause
    c.in_ok-behind.ensures.ok c.in-Ok.ensures
