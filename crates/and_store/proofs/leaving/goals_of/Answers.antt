use Rattle.std.proofs.Common.{◌∙◌, ap, sym, ◌≡◌, ◌+◌, ◌*◌, arith, get_or, ℕ}
use Rattle.std.specs.Slots.{slots_items}
use Rattle.and_store.specs.Left.{goal_at, goal_in}
use Rattle.and_store.proofs.Gathered.{at_value}
use Rattle.and_store.proofs.Over.{goal_so, goals_step, at_default}
use Rattle.and_store.proofs.leaving.goals_of.Goals as goal

pub loop-i-preserved : goal.loop-i-preserved
loop-i-preserved c =
    let ws = c.args.left.now in
    let items = slots_items c.args.table.now.words in
    let x = get_or ws c.loop-i.i 0 in
    let next : c.args.place + 2 * x + 1 ≡ c.args.place + (2 * x + 1) = omega arith in
    let upper = at_value items (c.args.place + 2 * x) c.word.result c.word.ensures in
    let lower = ap (λ (n : ℕ). get_or items n 0) (sym next) ∙ at_value items (c.args.place + 2 * x + 1) c.word-in-loop-i.result c.word-in-loop-i.ensures in
    let is : c.goal_of_words.result ≡ goal_at items c.args.place x =
    goal_so c.word.result c.word-in-loop-i.result c.goal_of_words.result c.goal_of_words.ensures.0 c.goal_of_words.ensures.1
    ∙ ap (λ (n : ℕ). goal_in n c.word-in-loop-i.result) (sym upper) ∙ ap (goal_in (get_or items (c.args.place + 2 * x) 0)) (sym lower) in (
      c.push_reserved.ensures.items
          ∙ goals_step (goal_at items c.args.place) ws c.loop-i.i x c.loop-i.goals.items c.goal_of_words.result c.loop-i-test.true
          (at_default ws c.loop-i.i c.loop-i-test.true) c.loop-i.invariant.0 is,
      let a = c.loop-i.invariant.1 in let b = c.push_reserved.ensures.capacity in omega (arith, a, b),
    )
