use Rattle.std.proofs.Common.{◌∙◌, ◌-◌, get_or, refl, subst, arith}
use Rattle.and_cells.proofs.Chains.{reads_more}
use Rattle.and_cells.specs.Seen.{Misses}
use Rattle.and_workers.proofs.Suspending.{one_more_free}
use Rattle.and_workers.proofs.suspended.last_set.Goals as goal

pub loop-place-preserved : goal.loop-place-preserved
loop-place-preserved g c =
    let i = c.loop-place.invariant in
    let old = g.C.Cells.seen c.args.cells.now in
    let mid = g.C.Cells.seen c.loop-place.cells in
    let new = g.C.Cells.seen c.look.new.self in
    let cell = get_or c.args.waited.now (c.loop-place.place - 1) 0 in
    let within = i.within in
    let misses = c.look.ensures.free c.in-Free.is in record {
      within = omega arith;
      over = c.look.ensures.over ∙ i.over;
      grew = g.met.C.Cells.grew_on c.args.cells.now c.loop-place.cells c.look.new.self i.grew c.look.ensures.grew;
      reads = reads_more old mid new i.reads c.look.ensures.only_reads;
      free = one_more_free (g.C.Cells.shared (g.C.Cells.over c.args.cells.now)) old mid new c.args.waited.now c.loop-place.place cell c.loop-place-test.true
          i.within refl i.reads
          (subst (λ o. Misses (g.C.Cells.shared o) cell mid new) i.over misses) i.free;
    }

pub returns-in_default : goal.returns-in_default
returns-in_default g c =
    let i = c.loop-place.invariant in
    let old = g.C.Cells.seen c.args.cells.now in
    let mid = g.C.Cells.seen c.loop-place.cells in
    let new = g.C.Cells.seen c.look.new.self in
    let some = c.loop-place-test.true in
    let within = i.within in record {
      over = c.look.ensures.over ∙ i.over;
      grew = g.met.C.Cells.grew_on c.args.cells.now c.loop-place.cells c.look.new.self i.grew c.look.ensures.grew;
      reads = reads_more old mid new i.reads c.look.ensures.only_reads;
      none = tt;
      set = (omega arith, record { before = mid; value = c.look.result; reads = i.reads; finds = c.look.ensures.found c.in_default.not-Free });
    }
