use Rattle.std.specs.Prelude.{◌≡◌, []}
use Rattle.and_unify.specs.declared.descending.Plainly.TheVariants.{Done}
use Rattle.and_unify.specs.Running.{ComesTo}
use Rattle.and_unify.proofs.descending.meet_all.Given as goal

abbrev pub invariant-loop-turn : goal.invariant-loop-turn
invariant-loop-turn g l = record {
  over : g.C.Cells.over l.cells ≡ g.C.Cells.over l.fn.cells;
  grew : g.C.Cells.Grew l.fn.cells l.cells;
  comes : ComesTo g.C.Cells.program (g.C.Cells.seen l.fn.cells) (g.C.Cells.seen l.cells) l.fn.pairs l.pairs l.fn.bound.items l.bound.items l.came;
  empty : l.came ≡ Done → l.pairs ≡ [];
}
