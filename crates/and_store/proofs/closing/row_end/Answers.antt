use Rattle.std.proofs.Common.{◌-◌, inl, inr, arith, sym, ap, ◌∙◌, get_or}
use Rattle.std.proofs.lemmas.Bool.{cases_eq}
use Rattle.std.specs.Slots.{slots_items}
use Rattle.and_store.proofs.Gathered.{at_value}
use Rattle.and_store.proofs.closing.row_end.Goals as goal

pub loop-end-preserved : goal.loop-end-preserved
loop-end-preserved c =
    let i = c.loop-end.invariant in
    let some_left = c.loop-end-test.true in
    let low = i.0 in
    let high = i.1 in
    let here = at_value (slots_items c.args.table.now.words) (c.loop-end.end - 1) c.word.result c.word.ensures ∙ c.if-word-eq0.true in (
      omega (arith, some_left),
      omega (arith, high),
      λ place h k. elim (cases_eq place (c.loop-end.end - 1)) [
        | inl same ↦ ap (λ n. get_or (slots_items c.args.table.now.words) n 0) same ∙ here
        | inr ne ↦ i.2 place (omega (arith, h, ne, some_left)) k
      ],
    )

pub returns-else-word-eq0-clause-no_longer : goal.returns-else-word-eq0-clause-no_longer
returns-else-word-eq0-clause-no_longer c =
    let some_left = c.loop-end-test.true in
    inr (
      omega (arith, some_left),
      λ e. c.if-word-eq0.false (sym (at_value (slots_items c.args.table.now.words) (c.loop-end.end - 1) c.word.result c.word.ensures) ∙ e),
    )
