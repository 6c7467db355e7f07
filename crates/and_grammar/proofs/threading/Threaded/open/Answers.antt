use Rattle.std.proofs.Common.{refl, false, List, ◌∷◌, ◌∙◌, ap}
use Rattle.and_grammar.specs.declared.threading.Task.{Task}
use Rattle.and_grammar.specs.declared.threading.Task.TheVariants.{Body, Others, EndAlternative, Join, EndDisjunction}
use Rattle.and_grammar.proofs.ThreadLemmas.{last_task}
use Rattle.and_grammar.proofs.threading.Threaded.open.Goals as goal

pub returns-clause-pending : goal.returns-clause-pending
returns-clause-pending c =
    c.in_ok-push_alternatives.ensures
    ∙ ap (λ (ts : List Task). Body c.args.left false ∷ EndAlternative c.args.self.now.next
    ∷ Others c.args.right c.args.self.now.state c.args.self.now.next ∷ Join ∷ ts)
    (last_task c.push.new.self.items c.args.pending.now.items (EndDisjunction c.args.self.now.goals) c.in_ok-push.ensures.items)

pub returns-clause-state : goal.returns-clause-state
returns-clause-state c = (refl, c.in_ok-self.ensures, refl)
