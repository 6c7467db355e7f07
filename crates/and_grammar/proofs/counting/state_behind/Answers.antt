use Rattle.std.proofs.Common.{rules, ℕ, true, ◌≡◌, List, [], ◌∷◌, reverse, sym, ap, ◌∙◌, arith, subst}
use Rattle.and_grammar.specs.declared.threading.Task.{Task}
use Rattle.and_grammar.specs.declared.threading.Task.TheVariants as tasks
use Rattle.and_grammar.specs.Acts.{acts_of, AreTasksWithin, efforts}
use Rattle.and_grammar.specs.Counts.{all_counted}
use Rattle.and_grammar.proofs.CopyLemmas.{no_more}
use Rattle.and_grammar.proofs.ThreadLemmas.{last_task}
use Rattle.and_grammar.proofs.counting.state_behind.Goals as goal

pub loop-task-init : goal.loop-task-init
loop-task-init c =
    let e : reverse c.push.new.self.items ≡ tasks.Body c.args.body true ∷ [] =
    last_task c.push.new.self.items c.new-pending.result.items (tasks.Body c.args.body true) c.in_ok-push.ensures.items
    ∙ ap (λ (ts : List Task). tasks.Body c.args.body true ∷ reverse ts) c.new-pending.ensures.items in
    record {
      same = ap (λ (ts : List Task). all_counted (acts_of c.args.rule.now ts) 0 1) e;
      within = subst (AreTasksWithin c.args.rule.now) (sym e) (c.requires, tt);
    }

pub step-requires : goal.step-requires
step-requires c =
    let e : reverse c.loop-task.pending.items ≡ c.in-Some.task ∷ reverse c.pop.new.self.items =
    last_task c.loop-task.pending.items c.pop.new.self.items c.in-Some.task c.in-Some.ensures.items in
    (subst (AreTasksWithin c.args.rule.now) e c.loop-task.invariant.within).0

pub loop-task-smaller : goal.loop-task-smaller
loop-task-smaller c =
    let e : reverse c.loop-task.pending.items ≡ c.in-Some.task ∷ reverse c.pop.new.self.items =
    last_task c.loop-task.pending.items c.pop.new.self.items c.in-Some.task c.in-Some.ensures.items in
    omega (arith, c.in_ok-step.ensures.less, ap (efforts c.args.rule.now) e)

pub loop-task-preserved : goal.loop-task-preserved
loop-task-preserved c =
    let e : reverse c.loop-task.pending.items ≡ c.in-Some.task ∷ reverse c.pop.new.self.items =
    last_task c.loop-task.pending.items c.pop.new.self.items c.in-Some.task c.in-Some.ensures.items in
    record {
      same = c.in_ok-step.ensures.same
          ∙ ap (λ (ts : List Task). all_counted (acts_of c.args.rule.now ts) c.loop-task.counted.state c.loop-task.counted.next) (sym e)
          ∙ c.loop-task.invariant.same;
      within = c.in_ok-step.ensures.within (subst (AreTasksWithin c.args.rule.now) e c.loop-task.invariant.within);
    }

pub returns : goal.returns
returns c =
    let none : c.loop-task.pending.items ≡ [] = no_more c.loop-task.pending.items (let h : c.loop-task.pending.len ≡ 0 = search rules in omega arith) in
    ap (λ (p : ℕ × ℕ). p.0)
    (ap (λ (ts : List Task). all_counted (acts_of c.args.rule.now (reverse ts)) c.loop-task.counted.state c.loop-task.counted.next) (sym none)
    ∙ c.loop-task.invariant.same)
