use Rattle.std.proofs.Common.{◌≡◌, map, drop}
use Rattle.and_program.specs.Items.{node_item}
use Rattle.and_guards.specs.Guards.{GuardCanBeRead, IsGuardFalse}
use Rattle.and_guards.proofs.guards.is_guard_false.Given as goal

abbrev pub invariant-loop-item : goal.invariant-loop-item
invariant-loop-item g l = record {
  same : l.cells ≡ l.fn.cells;
  readable : GuardCanBeRead g.N.Naming.program l.fn.cells l.base (map node_item (drop l.item-index l.items));
  onward : IsGuardFalse g.N.Naming.program l.fn.cells l.base (map node_item (drop l.item-index l.items))
      → IsGuardFalse g.N.Naming.program l.fn.cells l.base (map node_item l.items);
  back : IsGuardFalse g.N.Naming.program l.fn.cells l.base (map node_item l.items)
      → IsGuardFalse g.N.Naming.program l.fn.cells l.base (map node_item (drop l.item-index l.items));
}
