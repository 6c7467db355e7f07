use Rattle.std.proofs.Common.{◌≡◌, replicate, sym, ap, ◌∙◌, subst, arith}
use Rattle.and_cells.specs.Rows.{row_of, AreWords, IsSound}
use Rattle.and_cells.specs.Ground.{AreFounded}
use Rattle.and_cells.proofs.PlainRows.{kept_free, row_replicate}
use Rattle.and_cells.proofs.Grounding.{founded_nothing}
use Rattle.and_cells.proofs.plain.PlainCells.with.Goals as goal

pub invariant_of-result : goal.invariant_of-result
invariant_of-result g c =
    let P = g.N.Naming.program in
    let items : c.in_ok-words.words.items ≡ replicate c.args.words 0 =
    c.in_ok-words.ensures.items_if_clones_equal (λ y is. is) ∙ ap (replicate c.args.words) c.to_word.ensures in
    let kept = kept_free P c.args.words (let few = c.requires in omega arith) in
    subst (λ ws. AreWords ws × IsSound P (row_of ws) × AreFounded P (row_of ws) c.new.result) (sym items)
    (kept.0, kept.1, subst (AreFounded P (row_of (replicate c.args.words 0))) (sym c.new.ensures) (founded_nothing P (row_of (replicate c.args.words 0))))

pub returns : goal.returns
returns g c =
    let items : c.in_ok-words.words.items ≡ replicate c.args.words 0 =
    c.in_ok-words.ensures.items_if_clones_equal (λ y is. is) ∙ ap (replicate c.args.words) c.to_word.ensures in
    ap row_of items ∙ row_replicate c.args.words
