use Rattle.std.proofs.Common.{Bool, cond, List, [], Option, Some, None, ap, sym, ◌∙◌, arith, subst}
use Rattle.and_syntax.specs.Written.{Written}
use Rattle.and_translation.specs.Bodies.{elements}
use Rattle.and_grammar.specs.Views.{term_at, list_part, IsCell, IsCellOf}
use Rattle.and_grammar.proofs.Viewing.{list_part_same}
use Rattle.and_grammar.proofs.bodies.list_body.Goals as goal

pub loop-next-smaller : goal.loop-next-smaller
loop-next-smaller c =
    let here : IsCellOf c.args.rule.now c.loop-next.end c.in-Some.next = subst (IsCell c.args.rule.now c.loop-next.end) c.in-Some.is c.cell_at.ensures in
    omega (arith, here.within.smaller)

pub loop-next-preserved : goal.loop-next-preserved
loop-next-preserved c =
    let here : IsCellOf c.args.rule.now c.loop-next.end c.in-Some.next = subst (IsCell c.args.rule.now c.loop-next.end) c.in-Some.is c.cell_at.ensures in
    record {
      there = omega (arith, here.within.right, c.loop-next.invariant.there);
      same = sym (list_part_same (term_at c.args.rule.now c.in-Some.next.element) (elements (term_at c.args.rule.now c.in-Some.next.rest)))
          ∙ sym (ap (λ (w : Written). list_part (elements w)) here.named) ∙ c.loop-next.invariant.same;
    }

pub returns-then-is_empty_list : goal.returns-then-is_empty_list
returns-then-is_empty_list c =
    sym (ap list_part (c.in_default.ensures ∙ ap (λ (b : Bool). cond {A = Option (List Written)} b (Some []) None) (sym c.if-is_empty_list.ensures)))
    ∙ c.loop-next.invariant.same

pub returns-else-is_empty_list : goal.returns-else-is_empty_list
returns-else-is_empty_list c =
    sym (ap list_part (c.in_default.ensures ∙ ap (λ (b : Bool). cond {A = Option (List Written)} b (Some []) None) (sym c.if-is_empty_list.ensures)))
    ∙ c.loop-next.invariant.same
