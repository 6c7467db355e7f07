use Rattle.std.proofs.Common.{◌∙◌, ◌≤◌, ◌<◌, length, ◌≡◌, ◌≢◌, refl, sym, arith}
use Rattle.and_cells.proofs.Chains.{reads_more, reads_nothing}
use Rattle.and_shared_determinacy.specs.declared.weighing.Weighed.TheVariants.{Stands, Memory}
use Rattle.and_shared_determinacy.proofs.Weighed.{fails_here, range_on, fails_on}
use Rattle.and_shared_determinacy.proofs.weighing.weigh_guard.Goals as goal

pub loop-item-init : goal.loop-item-init
loop-item-init g c = record {
  over = refl;
  grew = g.met.C.Cells.grew_nothing c.args.cells.now;
  reads = reads_nothing (g.C.Cells.seen c.args.cells.now);
  in_range = c.requires.in_range;
  onward = λ s f. f;
  fuel = omega arith;
}

pub returns-in-Fails-clause-reads : goal.returns-in-Fails-clause-reads
returns-in-Fails-clause-reads g c =
    reads_more (g.C.Cells.seen c.args.cells.now) (g.C.Cells.seen c.loop-item.cells) (g.C.Cells.seen c.weigh.new.cells) c.loop-item.invariant.reads
    c.weigh.ensures.reads

pub returns-in-PutOff-clause-reads : goal.returns-in-PutOff-clause-reads
returns-in-PutOff-clause-reads g c =
    reads_more (g.C.Cells.seen c.args.cells.now) (g.C.Cells.seen c.loop-item.cells) (g.C.Cells.seen c.weigh.new.cells) c.loop-item.invariant.reads
    c.weigh.ensures.reads

pub returns-in-Memory-clause-reads : goal.returns-in-Memory-clause-reads
returns-in-Memory-clause-reads g c =
    reads_more (g.C.Cells.seen c.args.cells.now) (g.C.Cells.seen c.loop-item.cells) (g.C.Cells.seen c.weigh.new.cells) c.loop-item.invariant.reads
    c.weigh.ensures.reads

pub returns-in-Fails-clause-fails : goal.returns-in-Fails-clause-fails
returns-in-Fails-clause-fails g c = λ is.
    c.loop-item.invariant.onward (g.C.Cells.seen c.weigh.new.cells)
    (fails_here g.C.Cells.program (g.C.Cells.seen c.weigh.new.cells) c.args.base c.args.items.now c.loop-item.item-index _ c.in-Compare.relation
    c.in-Compare.left c.in-Compare.right
    (omega (arith, c.loop-item-test.true)) c.in-Compare.is (c.weigh.ensures.fails c.in-Fails.is))

pub loop-item-preserved : goal.loop-item-preserved
loop-item-preserved g c =
    let i = c.loop-item.invariant in
    let other : c.weigh.result ≢ Memory = λ e. let both : Stands ≡ Memory = sym c.in-Stands.is ∙ e in absurd (cc) in
    let P = g.C.Cells.program in
    let items = c.args.items.now in
    let k = c.loop-item.item-index in
    let low : k < length items = omega (arith, c.loop-item-test.true) in
    let less = c.weigh.ensures.fuel other in record {
      over = c.weigh.ensures.over ∙ i.over;
      grew = g.met.C.Cells.grew_on c.args.cells.now c.loop-item.cells c.weigh.new.cells i.grew c.weigh.ensures.grew;
      reads = reads_more (g.C.Cells.seen c.args.cells.now) (g.C.Cells.seen c.loop-item.cells) (g.C.Cells.seen c.weigh.new.cells) i.reads c.weigh.ensures.reads;
      in_range = range_on P c.args.base items k _ c.in-Compare.relation c.in-Compare.left c.in-Compare.right low c.in-Compare.is
          (g.C.Cells.seen c.args.cells.now).words i.in_range;
      onward = λ s f. i.onward s (fails_on P c.args.base items k _ c.in-Compare.relation c.in-Compare.left c.in-Compare.right low c.in-Compare.is s f);
      fuel = let was : c.loop-item.fuel ≤ c.args.fuel.now = i.fuel in omega (arith, less);
    }
