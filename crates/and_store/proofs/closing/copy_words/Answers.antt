use Rattle.std.proofs.Common.{◌∙◌, ap, ◌++◌, ◌∷◌, [], arith}
use Rattle.std.specs.Slots.{slots_items}
use Rattle.and_store.proofs.Gathered.{copied}
use Rattle.and_store.proofs.closing.copy_words.Goals as goal

pub loop-place-preserved : goal.loop-place-preserved
loop-place-preserved c = (
  c.push_reserved.ensures.items ∙ ap (λ l. l ++ c.word.result ∷ []) c.loop-place.invariant.0
      ∙ copied (slots_items c.args.table.now.words) c.loop-place.place c.word.result c.word.ensures,
  let a = c.loop-place.invariant.1 in let b = c.push_reserved.ensures.capacity in omega (arith, a, b),
)
