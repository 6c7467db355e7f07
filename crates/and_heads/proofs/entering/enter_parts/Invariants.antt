use Rattle.std.specs.Prelude.{◌++◌, length, All}
use Rattle.and_cells.specs.Rows.{plain}
use Rattle.and_unify.specs.Running.{Runs, arguments_of_both}
use Rattle.and_heads.specs.Owing.{AreOwed}
use Rattle.and_heads.specs.Parts.{HasShape, both_of, arguments_of_parts}
use Rattle.and_heads.proofs.entering.enter_parts.Given as goal

abbrev pub invariant-loop-turn : goal.invariant-loop-turn
invariant-loop-turn g l = record {
  shape : HasShape g.N.Naming.program (length l.cells) l.part;
  shapes : All (HasShape g.N.Naming.program (length l.cells)) l.parts.items;
  runs : Runs g.N.Naming.program (plain l.fn.cells)
      (arguments_of_both g.N.Naming.program (both_of l.fn.first) ++ arguments_of_parts g.N.Naming.program l.fn.parts.items) l.fn.bound.items (plain l.cells)
      (arguments_of_both g.N.Naming.program (both_of l.part) ++ arguments_of_parts g.N.Naming.program l.parts.items) l.bound.items;
  owed : AreOwed g.N.Naming.program l.fn.floor l.fn.cells l.fn.bound.items l.fn.owed → AreOwed g.N.Naming.program l.floor l.cells l.bound.items l.owed;
}
