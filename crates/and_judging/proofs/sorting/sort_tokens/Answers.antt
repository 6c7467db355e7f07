use Rattle.std.proofs.Common.{ap, sym, subst, [], length, get_or, arith}
use Rattle.and_judging.specs.Marks.{marks_in}
use Rattle.and_judging.specs.Sorted.{Sorting, steps, begun}
use Rattle.and_judging.specs.Sorts.{shapes_under, sorting_in, locals_in, AreFew}
use Rattle.and_judging.proofs.SortedWhole.{token_there, few-more, next_sorted, next_few, all_sorted}
use Rattle.and_judging.proofs.SortedThere.{begun_there}
use Rattle.and_judging.specs.declared.body.BodyToken.{BodyToken}
use Rattle.and_judging.specs.declared.body.BodyToken.TheVariants.{Item}
use Rattle.and_program.specs.declared.item.ItemNode.TheVariants.{Call}
use Rattle.and_judging.proofs.sorting.sort_tokens.Goals as goal

abbrev first_token : BodyToken
first_token = Item (Call (record { 0 = 0 }))

pub loop-token-init : goal.loop-token-init
loop-token-init c = record {
  sorted = λ names. let ss = shapes_under names c.args.parts.now in ap (λ s. steps s (marks_in ss c.args.tokens.now)) (c.in_ok-sorting.ensures ss);
  few = subst (λ (s : Sorting). AreFew 0 s.locals) (sym (c.in_ok-sorting.ensures [])) tt;
  there = begun_there (length c.args.parts.now) c.in_ok-sorting.sorting (c.in_ok-sorting.ensures []);
}

pub take_token-requires-clause-there : goal.take_token-requires-clause-there
take_token-requires-clause-there c =
    token_there (length c.args.parts.now) c.args.tokens.now c.loop-token.token-index first_token c.loop-token-test.true c.requires.there

pub take_token-requires-clause-few : goal.take_token-requires-clause-few
take_token-requires-clause-few c =
    few-more c.loop-token.token-index 18446744073709551614 (locals_in c.loop-token.sorting.sorted.disjunctions.items)
    (omega (arith, c.loop-token-test.true, c.requires.few)) c.loop-token.invariant.few

pub loop-token-preserved : goal.loop-token-preserved
loop-token-preserved c = record {
  sorted = λ names. let ss = shapes_under names c.args.parts.now in
      next_sorted ss c.args.tokens.now c.loop-token.token-index first_token (sorting_in ss c.loop-token.sorting) (sorting_in ss c.take_token.new.sorting)
      (steps begun (marks_in ss c.args.tokens.now)) c.loop-token-test.true (c.in_ok-take_token.ensures.sorted names) (c.loop-token.invariant.sorted names);
  few = next_few (shapes_under [] c.args.parts.now) (get_or c.args.tokens.now c.loop-token.token-index first_token) c.loop-token.sorting
      c.take_token.new.sorting
      c.loop-token.token-index (c.in_ok-take_token.ensures.sorted []) c.loop-token.invariant.few;
  there = c.in_ok-take_token.ensures.there c.loop-token.invariant.there;
}

pub returns-clause-sorted : goal.returns-clause-sorted
returns-clause-sorted c = λ names name c1 d ps is.
    let ss = shapes_under names c.args.parts.now in
    all_sorted ss c.args.tokens.now c.loop-token.token-index c.loop-token.sorting name c1 d ps c.loop-token-test.false (c.loop-token.invariant.sorted names) is
