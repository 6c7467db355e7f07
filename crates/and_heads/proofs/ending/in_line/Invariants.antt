use Rattle.std.specs.Prelude.{length, false}
use Rattle.and_cells.specs.Ranges.{IsInRange}
use Rattle.and_cells.specs.Ends.{Ends}
use Rattle.and_heads.proofs.ending.in_line.Given as goal

abbrev pub invariant-loop-turn : goal.invariant-loop-turn
invariant-loop-turn g l = record {
  in_range : IsInRange g.N.Naming.program (length l.cells) l.at;
  ends : Ends g.N.Naming.program l.cells l.floor false l.at → Ends g.N.Naming.program l.cells l.floor false l.fn.from;
}
