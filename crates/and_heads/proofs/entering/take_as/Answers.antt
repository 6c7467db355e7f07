use Rattle.std.proofs.Common.{ℕ, List, length, set, sym, subst, refl, inl}
use Rattle.and_model.specs.declared.reference.Ref.{Ref}
use Rattle.and_cells.specs.Rows.{plain}
use Rattle.and_cells.specs.Seen.{Sets, word_at}
use Rattle.and_cells.proofs.Chains.{reads_nothing}
use Rattle.and_cells.proofs.PlainRows.{plain_sets}
use Rattle.and_heads.specs.Owing.{AreOwed}
use Rattle.and_heads.proofs.Filling.{below_is_set, below_held, below_ends}
use Rattle.and_heads.proofs.Noting.{one_more, one_longer}
use Rattle.and_heads.proofs.entering.take_as.Goals as goal

pub set_as-requires-clause-fits : goal.set_as-requires-clause-fits
set_as-requires-clause-fits g c =
    let row = c.args.cells.now in
    below_held c.requires.below.0 g.N.Naming.program (length row) c.args.from c.args.cell (word_at row c.args.from) c.requires.below.1
    (c.len-words.ensures.sound.fits c.args.from)

pub set_as-requires-clause-written : goal.set_as-requires-clause-written
set_as-requires-clause-written g c = c.len-words.ensures.sound.written c.args.from

pub returns-then-is_err-clause-given_up : goal.returns-then-is_err-clause-given_up
returns-then-is_err-clause-given_up g c = λ is. (reads_nothing (plain c.args.cells.now), c.make_room.ensures.items)

pub returns-then-is_err-clause-owed : goal.returns-then-is_err-clause-owed
returns-then-is_err-clause-owed g c = λ floor owed high below before.
    subst (λ (xs : List ℕ). AreOwed g.N.Naming.program floor c.args.cells.now xs owed) (sym c.make_room.ensures.items) before

pub returns-clause-done : goal.returns-clause-done
returns-clause-done g c = λ is.
    let row = c.args.cells.now in
    let to : Ref = word_at row c.args.from in (
      subst (λ after. Sets c.args.cell to (plain row) (plain after)) (sym c.set_as.ensures)
          (plain_sets row c.args.cell to c.requires.in_row.0 c.requires.free (below_is_set c.requires.below.0 to c.requires.below.1)),
      one_longer c.args.bound.now.items _ _ c.args.cell c.push_reserved.ensures.items c.make_room.ensures.items,
    )

pub returns-clause-owed : goal.returns-clause-owed
returns-clause-owed g c = λ floor owed high below before.
    let P = g.N.Naming.program in
    let row = c.args.cells.now in
    let to : Ref = word_at row c.args.from in
    let more = one_more P floor row c.args.cell to c.requires.in_row.0 c.requires.free c.args.bound.now.items owed owed
    (inl (refl, below_ends floor P c.args.cell to high below)) before in
    let gained = one_longer c.args.bound.now.items _ _ c.args.cell c.push_reserved.ensures.items c.make_room.ensures.items in
    subst (λ (after : List Ref). AreOwed P floor after c.push_reserved.new.self.items owed) (sym c.set_as.ensures)
    (subst (λ (xs : List ℕ). AreOwed P floor (set row c.args.cell to) xs owed) (sym gained) more)
