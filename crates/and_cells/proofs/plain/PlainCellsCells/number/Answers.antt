use Rattle.std.proofs.Common.{◌∙◌, refl, suc, w64}
use Rattle.std.proofs.lemmas.Int.{to_z-of_z}
use Rattle.and_cells.specs.Seen.{word_at}
use Rattle.and_cells.proofs.PlainRows.{plain_reads, plain_reads_number}
use Rattle.and_cells.proofs.plain.PlainCellsCells.number.Goals as goal

pub returns-clause-read : goal.returns-clause-read
returns-clause-read g c =
    plain_reads_number g.N.Naming.program c.args.self.now c.args.pair (suc c.args.pair) (word_at c.args.self.now c.args.pair)
    (word_at c.args.self.now (suc c.args.pair)) _
    c.held_number.ensures.sound refl c.requires.written refl refl (to_z-of_z w64 c.held_number.result (record { sfits = c.held_number.type_inv })
    ∙ c.held_number.ensures.value)

pub returns-clause-only_reads : goal.returns-clause-only_reads
returns-clause-only_reads g c = plain_reads c.args.self.now
