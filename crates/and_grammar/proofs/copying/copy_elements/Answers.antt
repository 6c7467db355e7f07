use Rattle.std.proofs.Common.{rules, ◌+◌, ◌≡◌, ap, arith, subst, length, [], ◌∷◌}
use Rattle.std.proofs.lemmas.List.{length-append}
use Rattle.and_translation.specs.Bodies.{elements}
use Rattle.and_drafts.specs.Drafts.{draft_of}
use Rattle.and_grammar.specs.Views.{term_at, IsCell, IsCellOf}
use Rattle.and_grammar.proofs.CopyLemmas.{left_first, left_more, left_none}
use Rattle.and_grammar.proofs.copying.copy_elements.Goals as goal

pub loop-next-init : goal.loop-next-init
loop-next-init c = record {
  there = c.requires;
  enough = omega arith;
  left = λ items e. left_first c.args.rule.now c.args.out.now c.args.list items e;
}

pub copy_term-requires : goal.copy_term-requires
copy_term-requires c =
    let here : IsCellOf c.args.rule.now c.loop-next.rest c.in-Some.next = subst (IsCell c.args.rule.now c.loop-next.rest) c.in-Some.is c.cell_at.ensures in
    omega (arith, here.within.left, c.loop-next.invariant.there)

pub loop-next-smaller : goal.loop-next-smaller
loop-next-smaller c =
    let here : IsCellOf c.args.rule.now c.loop-next.rest c.in-Some.next = subst (IsCell c.args.rule.now c.loop-next.rest) c.in-Some.is c.cell_at.ensures in
    omega (arith, here.within.smaller)

pub loop-next-preserved : goal.loop-next-preserved
loop-next-preserved c =
    let here : IsCellOf c.args.rule.now c.loop-next.rest c.in-Some.next = subst (IsCell c.args.rule.now c.loop-next.rest) c.in-Some.is c.cell_at.ensures in
    let count : c.in-Some-checked_add.more ≡ c.loop-next.count + 1 = search rules in
    record {
      there = omega (arith, here.within.right, c.loop-next.invariant.there);
      enough = omega (
        arith,
        ap length c.in_ok-copy_term.ensures.finished,
        length-append (draft_of c.loop-next.out).finished (term_at c.args.rule.now c.in-Some.next.element ∷ []),
        c.loop-next.invariant.enough,
      );
      left = λ items e. left_more c.args.rule.now c.args.out.now c.loop-next.out c.copy_term.new.out c.loop-next.rest c.in-Some.next.rest c.loop-next.count
          c.in-Some-checked_add.more
          (term_at c.args.rule.now c.in-Some.next.element) items (ap elements here.named) count c.in_ok-copy_term.ensures (c.loop-next.invariant.left items e);
    }

pub returns-clause-listed : goal.returns-clause-listed
returns-clause-listed c = λ items e. left_none c.args.rule.now c.args.out.now c.loop-next.out c.loop-next.rest c.loop-next.count items c.in_default.ensures
    (c.loop-next.invariant.left items e)
