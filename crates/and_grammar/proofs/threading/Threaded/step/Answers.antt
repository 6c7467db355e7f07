use Rattle.std.proofs.Common.{ℕ, arith, refl, sym, subst, reverse, length, List, ◌∷◌, OnOk}
use Rattle.and_grammar.specs.declared.threading.Task.{Task}
use Rattle.and_grammar.specs.declared.threading.Task.TheVariants as tasks
use Rattle.and_grammar.specs.Acts.{Steps, IsTaskWithin, AreBelow, acts_of, stand_of}
use Rattle.and_grammar.proofs.CopyLemmas.{on_ok}
use Rattle.and_grammar.proofs.ThreadLemmas.{task_done, task_split, all_below, below_few, join_made, resume_made}
use Rattle.and_grammar.proofs.threading.Threaded.step.Goals as goal

pub take_body-requires : goal.take_body-requires
take_body-requires c =
    let todo : List Task = reverse c.args.pending.now.items in
    record {
      within = subst (IsTaskWithin c.args.rule.now) c.in-Body.is c.requires.within;
      counted = c.requires.counted;
      below = subst (λ (t : Task). AreBelow (acts_of c.args.rule.now (t ∷ todo)) (length (stand_of c.args.self.now).below)) c.in-Body.is c.requires.below;
    }

pub put_compound-requires : goal.put_compound-requires
put_compound-requires c =
    let todo : List Task = reverse c.args.pending.now.items in
    let b = subst (λ (t : Task). AreBelow (acts_of c.args.rule.now (t ∷ todo)) (length (stand_of c.args.self.now).below)) c.in-Join.is c.requires.below in
    omega (arith, b.0, below_few c.args.self.now)

pub returns-in-Body : goal.returns-in-Body
returns-in-Body c =
    let todo : List Task = reverse c.args.pending.now.items in
    subst
    (λ (t : Task). OnOk c.take_body.result
    (Steps c.args.rule.now (t ∷ todo) (reverse c.take_body.new.pending.items) c.args.self.now c.take_body.new.self))
    (sym c.in-Body.is) c.take_body.ensures

pub returns-in_ok-push_others-in-Others : goal.returns-in_ok-push_others-in-Others
returns-in_ok-push_others-in-Others c =
    task_split c.args.rule.now c.args.task c.in-Others.place c.in-Others.from c.in-Others.into (reverse c.args.pending.now.items) _ c.args.self.now _
    c.in-Others.is c.requires.below c.in_ok-push_others-in-Others.ensures
    (all_below c.args.self.now _ c.requires.counted refl _ c.in-Others.from c.args.self.now.next refl refl refl refl)

pub returns-in-EndAlternative : goal.returns-in-EndAlternative
returns-in-EndAlternative c =
    let todo : List Task = reverse c.args.pending.now.items in
    on_ok c.end_alternative.result _ (Steps c.args.rule.now (c.args.task ∷ todo) todo c.args.self.now c.end_alternative.new.self)
    (task_done c.args.rule.now c.args.task (tasks.EndAlternative c.in-EndAlternative.into) todo c.args.self.now c.end_alternative.new.self
    c.in-EndAlternative.is c.requires.below) c.end_alternative.ensures

pub returns-in_ok-put_compound-in-Join : goal.returns-in_ok-put_compound-in-Join
returns-in_ok-put_compound-in-Join c =
    let todo : List Task = reverse c.args.pending.now.items in
    let below = subst (λ (t : Task). AreBelow (acts_of c.args.rule.now (t ∷ todo)) (length (stand_of c.args.self.now).below)) c.in-Join.is c.requires.below in
    task_done c.args.rule.now c.args.task tasks.Join todo c.args.self.now _ c.in-Join.is c.requires.below
    (join_made c.args.self.now _ c.requires.counted (omega (arith, below.0, below_few c.args.self.now)) c.in_ok-put_compound-in-Join.ensures refl refl refl)

pub returns-in_ok-self-in-EndDisjunction : goal.returns-in_ok-self-in-EndDisjunction
returns-in_ok-self-in-EndDisjunction c =
    let todo : List Task = reverse c.args.pending.now.items in
    let n : ℕ = c.in-EndDisjunction.goals in
    let below = subst (λ (t : Task). AreBelow (acts_of c.args.rule.now (t ∷ todo)) (length (stand_of c.args.self.now).below)) c.in-EndDisjunction.is
    c.requires.below in
    task_done c.args.rule.now c.args.task (tasks.EndDisjunction n) todo c.args.self.now _ c.in-EndDisjunction.is c.requires.below
    (resume_made c.args.self.now _ n (omega (arith, below.0, below_few c.args.self.now)) refl c.in_ok-self-in-EndDisjunction.ensures refl refl)
