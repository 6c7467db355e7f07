use Rattle.std.proofs.Common.{ℕ, List, [], ◌∷◌, ◌++◌, length, set, sym, subst, ap, ◌∙◌}
use Rattle.and_model.specs.declared.reference.Ref.{Ref}
use Rattle.and_cells.specs.Rows.{plain}
use Rattle.and_cells.specs.Seen.{Sets}
use Rattle.and_cells.proofs.Chains.{reads_nothing}
use Rattle.and_cells.proofs.PlainRows.{has_word, can_hold, written_in_row, plain_sets, in_range_is_set}
use Rattle.and_cells.specs.Ranges.{IsInRange}
use Rattle.and_heads.specs.Owing.{Owes, AreOwed}
use Rattle.and_heads.proofs.Noting.{one_more, one_longer}
use Rattle.and_heads.proofs.entering.take.Goals as goal

pub returns-then-is_err-clause-given_up : goal.returns-then-is_err-clause-given_up
returns-then-is_err-clause-given_up g c = λ is. (reads_nothing (plain c.args.cells.now), c.make_room.ensures.items)

pub set-requires-clause-kept : goal.set-requires-clause-kept
set-requires-clause-kept g c =
    has_word g.N.Naming.program (length c.args.cells.now) c.args.to c.len-words.ensures.sound.short c.requires.in_range

pub set-requires-clause-fits : goal.set-requires-clause-fits
set-requires-clause-fits g c =
    can_hold g.N.Naming.program (length c.args.cells.now) c.args.cell c.args.to c.requires.in_range c.requires.falls

pub set-requires-clause-written : goal.set-requires-clause-written
set-requires-clause-written g c = λ pair is.
    written_in_row g.N.Naming.program c.args.cells.now pair c.len-words.ensures.sound (c.requires.written pair is)

pub returns-clause-done : goal.returns-clause-done
returns-clause-done g c = λ is. (
  subst (λ row. Sets c.args.cell c.args.to (plain c.args.cells.now) (plain row)) (sym c.set.ensures)
      (plain_sets c.args.cells.now c.args.cell c.args.to c.requires.in_row c.requires.free
      (in_range_is_set g.N.Naming.program _ c.args.to c.requires.in_range)),
  c.push_reserved.ensures.items ∙ ap (λ xs. xs ++ c.args.cell ∷ []) c.make_room.ensures.items,
)

pub owe-requires : goal.owe-requires
owe-requires g c =
    record { in_range = (length c.args.cells.now, subst (λ P. IsInRange P (length c.args.cells.now) c.args.to) c.requires.program c.requires.in_range) }

pub returns-then-is_err-clause-owed : goal.returns-then-is_err-clause-owed
returns-then-is_err-clause-owed g c = λ owed.
    subst (λ (xs : List ℕ). AreOwed g.N.Naming.program c.args.floor c.args.cells.now xs c.args.owed.now) (sym c.make_room.ensures.items) owed

pub returns-clause-owed : goal.returns-clause-owed
returns-clause-owed g c = λ owed.
    let P = g.N.Naming.program in
    let owes = subst (λ Q. Owes Q c.args.floor c.args.cell c.args.to c.args.owed.now c.owe.new.owed) (sym c.requires.program) c.owe.ensures in
    let more = one_more P c.args.floor c.args.cells.now c.args.cell c.args.to c.requires.in_row c.requires.free c.args.bound.now.items c.args.owed.now
    c.owe.new.owed owes owed in
    let gained = one_longer c.args.bound.now.items _ _ c.args.cell c.push_reserved.ensures.items c.make_room.ensures.items in
    subst (λ (row : List Ref). AreOwed P c.args.floor row c.push_reserved.new.self.items c.owe.new.owed) (sym c.set.ensures)
    (subst (λ (xs : List ℕ). AreOwed P c.args.floor (set c.args.cells.now c.args.cell c.args.to) xs c.owe.new.owed) (sym gained) more)
