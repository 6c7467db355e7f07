use Rattle.std.specs.Prelude.{◌++◌, drop, length, All}
use Rattle.and_cells.specs.Rows.{plain}
use Rattle.and_unify.specs.Running.{Runs}
use Rattle.and_heads.specs.Owing.{AreOwed}
use Rattle.and_heads.specs.Parts.{HasShape, arguments_of_parts}
use Rattle.and_heads.proofs.entering.enter_pairs.Given as goal

abbrev pub invariant-loop-place : goal.invariant-loop-place
invariant-loop-place g l = record {
  shapes : All (HasShape g.N.Naming.program (length l.fn.cells)) l.parts.items;
  runs : Runs g.N.Naming.program (plain l.fn.cells) l.pairs l.fn.bound.items (plain l.cells)
      (drop l.place l.pairs ++ arguments_of_parts g.N.Naming.program l.parts.items) l.bound.items;
  owed : AreOwed g.N.Naming.program l.fn.floor l.fn.cells l.fn.bound.items l.fn.owed → AreOwed g.N.Naming.program l.floor l.cells l.bound.items l.owed;
}
