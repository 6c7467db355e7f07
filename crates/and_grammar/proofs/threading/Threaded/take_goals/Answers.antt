use Rattle.std.proofs.Common.{refl}
use Rattle.and_grammar.specs.Views.{term_at}
use Rattle.and_grammar.proofs.ThreadLemmas.{goal_made}
use Rattle.and_grammar.proofs.threading.Threaded.take_goals.Goals as goal

pub returns : goal.returns
returns c =
    goal_made c.args.self.now _ c.requires.counted c.in_ok-copy_term.ensures.line (term_at c.args.rule.now c.args.place)
    c.in_ok-copy_term.ensures.finished c.in_ok-self.ensures refl refl
