use Rattle.std.proofs.Common.{refl, sym, subst, reverse, List, ◌∷◌, OnOk}
use Rattle.and_grammar.specs.declared.threading.Task.{Task}
use Rattle.and_grammar.specs.declared.threading.Task.TheVariants as tasks
use Rattle.and_grammar.specs.Acts.{IsTaskWithin}
use Rattle.and_grammar.specs.Counts.{Counts}
use Rattle.and_grammar.proofs.CountLemmas.{task_counted, others_counted}
use Rattle.and_grammar.proofs.counting.Counted.step.Goals as goal

pub take_body-requires : goal.take_body-requires
take_body-requires c = subst (IsTaskWithin c.args.rule.now) c.in-Body.is c.requires

pub returns-in-Body : goal.returns-in-Body
returns-in-Body c =
    let todo : List Task = reverse c.args.pending.now.items in
    subst
    (λ (t : Task). OnOk c.take_body.result
    (Counts c.args.rule.now (t ∷ todo) (reverse c.take_body.new.pending.items) c.args.self.now c.take_body.new.self))
    (sym c.in-Body.is) c.take_body.ensures

pub push_others-requires : goal.push_others-requires
push_others-requires c = subst (IsTaskWithin c.args.rule.now) c.in-Others.is c.requires

pub returns-in_ok-push_others-in-Others : goal.returns-in_ok-push_others-in-Others
returns-in_ok-push_others-in-Others c =
    others_counted c.args.rule.now c.args.task c.in-Others.place c.in-Others.from c.in-Others.into (reverse c.args.pending.now.items) _ c.args.self.now _
    c.in-Others.is c.in_ok-push_others-in-Others.ensures refl refl

pub returns-in-EndAlternative : goal.returns-in-EndAlternative
returns-in-EndAlternative c =
    task_counted c.args.rule.now c.args.task (tasks.EndAlternative c.in-EndAlternative.into) (reverse c.args.pending.now.items) c.args.self.now _
    c.in-EndAlternative.is refl

pub returns-in-Join : goal.returns-in-Join
returns-in-Join c =
    task_counted c.args.rule.now c.args.task tasks.Join (reverse c.args.pending.now.items) c.args.self.now c.args.self.now c.in-Join.is refl

pub returns-in-EndDisjunction : goal.returns-in-EndDisjunction
returns-in-EndDisjunction c =
    task_counted c.args.rule.now c.args.task (tasks.EndDisjunction c.in-EndDisjunction.goals) (reverse c.args.pending.now.items) c.args.self.now
    c.args.self.now c.in-EndDisjunction.is refl
