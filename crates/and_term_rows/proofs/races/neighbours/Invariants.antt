use Rattle.and_cells.specs.Seen.{Seen}
use Rattle.and_unify.specs.Pairs.{AreInRange, AreWritten}
use Rattle.and_term_rows.proofs.races.neighbours.Given as goal

abbrev pub invariant-loop-turn : goal.invariant-loop-turn
invariant-loop-turn g l = AreInRange g.N.Naming.program l.store.about.words l.pairs × ((s : Seen) → AreWritten s l.pairs)
