use Rattle.std.proofs.Common.{refl, sym, ◌∙◌, inl, inr}
use Rattle.and_cells.proofs.Keeping.{free_or_set}
use Rattle.and_cells.proofs.Chains.{finds_reads, misses_reads}
use Rattle.and_term_rows.proofs.Glimpses.{known_is_so}
use Rattle.and_term_rows.proofs.late.LateCellsCells.look.Goals as goal

pub discover-requires-clause-unknown : goal.discover-requires-clause-unknown
discover-requires-clause-unknown g c = λ r knows. c.in-None.ensures.none refl r knows

pub found-requires-clause-set : goal.found-requires-clause-set
found-requires-clause-set g c = λ e.
    let is = known_is_so c.args.self.now.words c.args.self.now.known.items c.args.self.now.missed.items c.args.cell c.in-Some.field-0 c.args.self.now.so
    c.in-Some.ensures.some in
    is.1 (sym is.0 ∙ e)

pub returns-in-Some-clause-only_reads : goal.returns-in-Some-clause-only_reads
returns-in-Some-clause-only_reads g c = finds_reads g.N.Naming.program c.args.cell c.found.result _ _ c.found.ensures.found

pub returns-in-None-clause-only_reads : goal.returns-in-None-clause-only_reads
returns-in-None-clause-only_reads g c = elim (free_or_set c.discover.result) [
  | inl free ↦ misses_reads _ c.args.cell _ _ (c.discover.ensures.free free)
  | inr set ↦ finds_reads g.N.Naming.program c.args.cell c.discover.result _ _ (c.discover.ensures.found set)
]
