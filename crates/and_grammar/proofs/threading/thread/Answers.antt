use Rattle.std.proofs.Common.{◌≡◌, List, [], ◌∷◌, rules, true, length, reverse, refl, sym, ap, ◌∙◌, arith, subst}
use Rattle.and_translation.specs.Bodies.{behind_first}
use Rattle.and_translation.specs.Translation.{walk}
use Rattle.and_syntax.specs.Written.{Written}
use Rattle.and_drafts.specs.Drafts.{draft_of}
use Rattle.and_grammar.specs.declared.threading.Task.{Task}
use Rattle.and_grammar.specs.declared.threading.Task.TheVariants as tasks
use Rattle.and_grammar.specs.Views.{body_at}
use Rattle.and_grammar.specs.Acts.{acts_of, stand_of, all_done, AreBelow, AreTasksWithin, efforts}
use Rattle.and_grammar.specs.declared.threading.Threaded.{Threaded}
use Rattle.and_grammar.proofs.CopyLemmas.{no_more}
use Rattle.and_grammar.proofs.Standing.{stand}
use Rattle.and_grammar.proofs.ThreadLemmas.{last_task, all_finished, begun}
use Rattle.and_grammar.proofs.threading.thread.Goals as goal

pub loop-task-init : goal.loop-task-init
loop-task-init c =
    let t : Threaded = record { out = c.args.out; state = 0; next = 1; goals = 0 } in
    let e : reverse c.push.new.self.items ≡ tasks.Body c.args.body true ∷ [] =
    last_task c.push.new.self.items c.new-pending.result.items (tasks.Body c.args.body true) c.in_ok-push.ensures.items
    ∙ ap (λ (ts : List Task). tasks.Body c.args.body true ∷ reverse ts) c.new-pending.ensures.items in
    record {
      line = refl;
      same = begun c.args.rule.now c.args.body (reverse c.push.new.self.items) t e refl refl refl;
      counted = omega arith;
      below = subst (λ (ts : List Task). AreBelow (acts_of c.args.rule.now ts) (length (stand_of t).below)) (sym e) tt;
      within = subst (AreTasksWithin c.args.rule.now) (sym e) (c.requires, tt);
    }

pub step-requires : goal.step-requires
step-requires c =
    let e : reverse c.loop-task.pending.items ≡ c.in-Some.task ∷ reverse c.pop.new.self.items =
    last_task c.loop-task.pending.items c.pop.new.self.items c.in-Some.task c.in-Some.ensures.items in
    record {
      within = (subst (AreTasksWithin c.args.rule.now) e c.loop-task.invariant.within).0;
      counted = c.loop-task.invariant.counted;
      below = subst (λ (ts : List Task). AreBelow (acts_of c.args.rule.now ts) (length (stand_of c.loop-task.threaded).below)) e c.loop-task.invariant.below;
    }

pub loop-task-smaller : goal.loop-task-smaller
loop-task-smaller c =
    let e : reverse c.loop-task.pending.items ≡ c.in-Some.task ∷ reverse c.pop.new.self.items =
    last_task c.loop-task.pending.items c.pop.new.self.items c.in-Some.task c.in-Some.ensures.items in
    omega (arith, c.in_ok-step.ensures.less, ap (efforts c.args.rule.now) e)

pub loop-task-preserved : goal.loop-task-preserved
loop-task-preserved c =
    let e : reverse c.loop-task.pending.items ≡ c.in-Some.task ∷ reverse c.pop.new.self.items =
    last_task c.loop-task.pending.items c.pop.new.self.items c.in-Some.task c.in-Some.ensures.items in
    record {
      line = c.in_ok-step.ensures.line ∙ c.loop-task.invariant.line;
      same = c.in_ok-step.ensures.same ∙ ap (λ (ts : List Task). all_done (acts_of c.args.rule.now ts) (stand_of c.loop-task.threaded)) (sym e)
          ∙ c.loop-task.invariant.same;
      counted = c.in_ok-step.ensures.counted;
      below = c.in_ok-step.ensures.below;
      within = c.in_ok-step.ensures.within (subst (AreTasksWithin c.args.rule.now) e c.loop-task.invariant.within);
    }

pub join_goals-requires : goal.join_goals-requires
join_goals-requires c = c.loop-task.invariant.counted

pub returns : goal.returns
returns c =
    let b = behind_first (body_at c.args.rule.now c.args.body) in
    let before : List Written = (draft_of c.args.out).finished in
    let none : c.loop-task.pending.items ≡ [] = no_more c.loop-task.pending.items (let h : c.loop-task.pending.len ≡ 0 = search rules in omega arith) in
    let over : stand_of c.loop-task.threaded ≡ stand before (walk b 0 1).goals (walk b 0 1).behind (walk b 0 1).next =
    ap (λ (ts : List Task). all_done (acts_of c.args.rule.now (reverse ts)) (stand_of c.loop-task.threaded)) (sym none) ∙ c.loop-task.invariant.same in
    let end = all_finished c.loop-task.threaded before b c.loop-task.invariant.counted over in
    let joined = c.in_ok-join_goals.ensures before (walk b 0 1).goals end.all end.few in
    record { line = joined.line ∙ c.loop-task.invariant.line; finished = joined.finished }
