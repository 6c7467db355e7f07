use Rattle.std.proofs.Common.{sym, subst, ◌∙◌}
use Rattle.and_cells.specs.Seen.{Sets}
use Rattle.and_cells.specs.Rows.{plain}
use Rattle.and_cells.proofs.Chains.{sets_keeps, reads_keeps}
use Rattle.and_cells.proofs.PlainRows.{written_in_row, plain_sets, plain_reads, in_range_is_set}
use Rattle.and_cells.proofs.plain.PlainCellsCells.bind.Goals as goal
use Rattle.and_cells.proofs.plain.PlainCellsCells.bind.Goals.{After-set}

pub set-requires-clause-written : goal.set-requires-clause-written
set-requires-clause-written g c = λ pair is. written_in_row g.N.Naming.program c.args.self.now pair c.word-word.ensures.sound (c.requires.written pair is)

is_set : (g : _) (c : After-set g) → Sets c.args.cell c.args.to (plain c.args.self.now) (plain c.set.new.self)
is_set g c =
    subst (λ row. Sets c.args.cell c.args.to (plain c.args.self.now) (plain row)) (sym c.set.ensures)
    (plain_sets c.args.self.now c.args.cell c.args.to c.requires.cell (sym c.word-word.ensures.value ∙ c.is_unset.ensures.0 c.if-is_unset.true)
    (in_range_is_set g.N.Naming.program _ c.args.to c.requires.to))

pub returns-then-is_unset-clause-won : goal.returns-then-is_unset-clause-won
returns-then-is_unset-clause-won g c = λ won. is_set g c

pub returns-then-is_unset-clause-keeps : goal.returns-then-is_unset-clause-keeps
returns-then-is_unset-clause-keeps g c = sets_keeps c.args.cell c.args.to (plain c.args.self.now) (plain c.set.new.self) (is_set g c)

pub returns-clause-keeps : goal.returns-clause-keeps
returns-clause-keeps g c = reads_keeps (plain c.args.self.now) (plain c.args.self.now) (plain_reads c.args.self.now)
