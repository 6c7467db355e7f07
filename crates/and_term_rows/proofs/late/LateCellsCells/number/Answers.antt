use Rattle.std.proofs.Common.{◌≡◌, ◌+◌, suc, sym, ap, ◌∙◌, arith, w64}
use Rattle.std.proofs.lemmas.Int.{to_z-of_z}
use Rattle.and_cells.specs.Seen.{word_at}
use Rattle.and_cells.proofs.Chains.{finds_reads, reads_more, reads_number}
use Rattle.and_term_rows.proofs.Glimpses.{written_so}
use Rattle.and_term_rows.proofs.late.LateCellsCells.number.Goals as goal

pub found-high-requires-clause-set : goal.found-high-requires-clause-set
found-high-requires-clause-set g c =
    (written_so g.N.Naming.program c.args.self.now.words c.args.self.now.known.items c.args.self.now.missed.items c.args.pair c.len-count.ensures.sound
    c.args.self.now.so c.requires.written).0

pub found-low-requires-clause-set : goal.found-low-requires-clause-set
found-low-requires-clause-set g c = λ e.
    let next : c.args.pair + 1 ≡ suc c.args.pair = omega arith in
    (written_so g.N.Naming.program c.args.self.now.words c.args.self.now.known.items c.args.self.now.missed.items c.args.pair c.len-count.ensures.sound
    c.args.self.now.so c.requires.written).1
    (ap (word_at c.args.self.now.words) (sym next) ∙ ap (λ row. word_at row (c.args.pair + 1)) (sym c.found-high.ensures.words) ∙ e)

pub returns-clause-only_reads : goal.returns-clause-only_reads
returns-clause-only_reads g c =
    reads_more _ _ _ (finds_reads g.N.Naming.program c.args.pair c.found-high.result _ _ c.found-high.ensures.found)
    (finds_reads g.N.Naming.program (c.args.pair + 1) c.found-low.result _ _ c.found-low.ensures.found)

pub returns-clause-grew : goal.returns-clause-grew
returns-clause-grew g c =
    let r = reads_more _ _ _ (finds_reads g.N.Naming.program c.args.pair c.found-high.result _ _ c.found-high.ensures.found)
    (finds_reads g.N.Naming.program (c.args.pair + 1) c.found-low.result _ _ c.found-low.ensures.found) in
    (r.learnt, r.gains)

pub returns-clause-read : goal.returns-clause-read
returns-clause-read g c =
    let next : c.args.pair + 1 ≡ suc c.args.pair = omega arith in
    reads_number g.N.Naming.program c.args.pair (c.args.pair + 1) _ c.found-high.result c.found-low.result _ _ _ next
    c.found-high.ensures.found c.found-low.ensures.found (to_z-of_z w64 c.joined.result (record { sfits = c.joined.type_inv }) ∙ c.joined.ensures)
