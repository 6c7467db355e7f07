use Rattle.std.proofs.Common.{◌≡◌, ◌+◌, ◌∙◌, suc, ap, arith, w64, to_z, of_z}
use Rattle.std.proofs.lemmas.Int.{to_z-of_z}
use Rattle.and_cells.specs.Numbers.{high_half, low_half}
use Rattle.and_cells.specs.Seen.{WritesNumber}
use Rattle.and_cells.proofs.Chains.{reads_more, writes_number_by, writes_keeps, writes_known}
use Rattle.and_overlay.specs.Overlaid.{seen_over}
use Rattle.and_overlay.specs.Settings.{own_in}
use Rattle.and_overlay.proofs.overlay.OverlayCells.write_number.Goals as goal
use Rattle.and_overlay.proofs.overlay.OverlayCells.write_number.Goals.{After-joined}

is_written : (g : _) (c : After-joined g) → WritesNumber g.C.Cells.program c.args.pair c.args.value (to_z w64 (of_z w64 c.joined.result))
    (seen_over (g.C.Cells.seen c.args.self.now.cells.now) c.args.self.now.frame
    (own_in g.C.Cells.seen c.args.self.now.scratch.now.settings.items) c.args.self.now.scratch.now.looked.listed)
    (seen_over (g.C.Cells.seen c.fill-low.new.self.cells.now) c.fill-low.new.self.frame
    (own_in g.C.Cells.seen c.fill-low.new.self.scratch.now.settings.items) c.fill-low.new.self.scratch.now.looked.listed)
is_written g c =
    let next : c.args.pair + 1 ≡ suc c.args.pair = omega arith in
    let same = to_z-of_z w64 c.args.value c.ranges.value in
    let high : c.halves-high.result.0 ≡ high_half c.args.value = c.halves-high.ensures.high ∙ ap high_half same in
    let low : c.halves-high.result.1 ≡ low_half c.args.value = c.halves-high.ensures.low ∙ ap low_half same in
    writes_number_by g.C.Cells.program c.args.pair (c.args.pair + 1) c.args.value _
    c.halves-high.result.0 c.halves-high.result.1 c.fill-high.result c.fill-low.result _ _ _
    next high low c.fill-high.ensures.filled c.fill-low.ensures.filled (to_z-of_z w64 c.joined.result
    (record { sfits = c.joined.type_inv }) ∙ c.joined.ensures) c.ranges.value

pub returns-clause-grew : goal.returns-clause-grew
returns-clause-grew g c = record {
  cells_name = c.fill-low.ensures.grew.cells_name ∙ c.fill-high.ensures.grew.cells_name;
  scratch_name = c.fill-low.ensures.grew.scratch_name ∙ c.fill-high.ensures.grew.scratch_name;
  below = c.fill-low.ensures.grew.below ∙ c.fill-high.ensures.grew.below;
  frame = c.fill-low.ensures.grew.frame ∙ c.fill-high.ensures.grew.frame;
  over = c.fill-low.ensures.grew.over ∙ c.fill-high.ensures.grew.over;
  grew = g.met.C.Cells.grew_on c.args.self.now.cells.now c.fill-high.new.self.cells.now c.fill-low.new.self.cells.now
      c.fill-high.ensures.grew.grew c.fill-low.ensures.grew.grew;
  only_reads = reads_more _ _ _ c.fill-high.ensures.grew.only_reads c.fill-low.ensures.grew.only_reads;
  room = (
    c.fill-low.ensures.grew.room.0 ∙ c.fill-high.ensures.grew.room.0,
    c.fill-low.ensures.grew.room.1
        ∙ c.fill-high.ensures.grew.room.1,
  );
}

pub returns-clause-keeps : goal.returns-clause-keeps
returns-clause-keeps g c = writes_keeps g.C.Cells.program c.args.pair c.args.value _ _ _ (is_written g c)

pub returns-clause-known : goal.returns-clause-known
returns-clause-known g c = writes_known g.C.Cells.program c.args.pair c.args.value _ _ _ (is_written g c)

pub returns-clause-written : goal.returns-clause-written
returns-clause-written g c = is_written g c
