use Rattle.std.proofs.Common.{ℕ, ◌≡◌, [], ◌∷◌, ap}
use Rattle.std.proofs.lemmas.List.Elements.{All-nil, All-cons}
use Rattle.and_model.specs.declared.reference.Ref.TheVariants.{Free}
use Rattle.and_cells.specs.Seen.{word_at}
use Rattle.and_pending.specs.Pending.{cells_at}
use Rattle.and_pending.specs.declared.watch.Watch.{Watch}
use Rattle.and_pending.proofs.pending.sleeps.Goals as goal

pub returns-in-One : goal.returns-in-One
returns-in-One g c = λ yes.
    let IsFree = λ (cell : ℕ). word_at c.args.row.now cell ≡ Free in
    let cell = c.in-One.cell in (
      cell ∷ [],
      ap (λ (w : Watch). cells_at c.args.cells.now w) c.in-One.is,
      All-cons IsFree cell [] (c.is_free.ensures yes) (All-nil IsFree),
    )

pub returns-then-is_free : goal.returns-then-is_free
returns-then-is_free g c = λ yes.
    let IsFree = λ (cell : ℕ). word_at c.args.row.now cell ≡ Free in
    let one = c.in-Two.one in
    let other = c.in-Two.other in (
      one ∷ other ∷ [],
      ap (λ (w : Watch). cells_at c.args.cells.now w) c.in-Two.is,
      All-cons IsFree one (other ∷ []) (c.is_free-in-Two.ensures c.if-is_free.true)
          (All-cons IsFree other [] (c.is_free-then-is_free.ensures yes) (All-nil IsFree)),
    )
