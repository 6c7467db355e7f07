use Rattle.std.proofs.Common.{◌∙◌, ◌++◌, ◌∷◌, [], List, ap, arith, append_assoc}
use Rattle.and_lint.specs.declared.printing.Task.{Task}
use Rattle.and_lint.specs.declared.printing.Task.TheVariants.{Whole, Tail}
use Rattle.and_lint.proofs.printing.push_cell.Goals as goal

pub returns : goal.returns
returns c =
    let one = c.argument-tail.ensures.below in
    let other = c.argument-head.ensures.below in
    let there = c.requires.there in
    record {
      tail = c.argument-tail.result;
      head = c.argument-head.result;
      after_is = c.in_ok-push-2.ensures.items ∙ ap (λ (ks : List Task). ks ++ Whole c.argument-head.result ∷ []) c.in_ok-push.ensures.items
          ∙ append_assoc c.args.work.now.items (Tail c.argument-tail.result ∷ []) (Whole c.argument-head.result ∷ []);
      tail_there = omega arith;
      head_there = omega arith;
      tail_is = c.argument-tail.ensures.term;
      head_is = c.argument-head.ensures.term;
    }
