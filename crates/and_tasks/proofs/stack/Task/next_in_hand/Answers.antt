use Rattle.std.proofs.Common.{◌∙◌, refl, subst, sym}
use Rattle.std.proofs.lemmas.Result.{on_ok_weaker}
use Rattle.and_tasks.specs.Working.{HasNext}
use Rattle.and_tasks.specs.declared.stack.Level.{Level}
use Rattle.and_tasks.proofs.Topped.{one_level}
use Rattle.and_tasks.proofs.stack.Task.next_in_hand.Goals as goal

pub returns-in-Children-clause-next : goal.returns-in-Children-clause-next
returns-in-Children-clause-next g c = λ level is.
    let new = c.next_in_hand.new in
    on_ok_weaker c.next_in_hand.result
    (λ next. (
      new.self,
      refl,
      subst (λ (l : Level g.row.N.Denot). HasNext g.N.Naming.program l new.self c.args.hand.now.common new.hand)
          (one_level c.in-Children.level level (sym c.in-Children.is ∙ is)) next,
    ))
    c.next_in_hand.ensures.next
