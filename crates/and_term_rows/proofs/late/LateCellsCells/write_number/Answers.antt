use Rattle.std.proofs.Common.{◌∙◌, ◌+◌, ◌≡◌, suc, ap, arith, w64, to_z, of_z}
use Rattle.std.proofs.lemmas.Int.{to_z-of_z}
use Rattle.and_cells.specs.Numbers.{high_half, low_half}
use Rattle.and_cells.specs.Seen.{WritesNumber}
use Rattle.and_term_rows.specs.Late.{glimpse}
use Rattle.and_cells.proofs.Chains.{writes_number_by, writes_keeps, writes_known}
use Rattle.and_term_rows.proofs.late.LateCellsCells.write_number.Goals as goal
use Rattle.and_term_rows.proofs.late.LateCellsCells.write_number.Goals.{After-joined}

is_written : (g : _) (c : After-joined g)
    → WritesNumber g.N.Naming.program c.args.pair c.args.value (to_z w64 (of_z w64 c.joined.result))
    (glimpse c.args.self.now.words c.args.self.now.known.items c.args.self.now.missed.items)
    (glimpse c.fill-low.new.self.words c.fill-low.new.self.known.items c.fill-low.new.self.missed.items)
is_written g c =
    let next : c.args.pair + 1 ≡ suc c.args.pair = omega arith in
    let same = to_z-of_z w64 c.args.value c.ranges.value in
    let high : c.halves-high.result.0 ≡ high_half c.args.value = c.halves-high.ensures.high ∙ ap high_half same in
    let low : c.halves-high.result.1 ≡ low_half c.args.value = c.halves-high.ensures.low ∙ ap low_half same in
    writes_number_by g.N.Naming.program c.args.pair (c.args.pair + 1) c.args.value _
    c.halves-high.result.0 c.halves-high.result.1 c.fill-high.result c.fill-low.result _ _ _
    next high low c.fill-high.ensures.filled c.fill-low.ensures.filled (to_z-of_z w64 c.joined.result (record { sfits = c.joined.type_inv })
    ∙ c.joined.ensures) c.ranges.value

pub returns-clause-written : goal.returns-clause-written
returns-clause-written g c = is_written g c

pub returns-clause-keeps : goal.returns-clause-keeps
returns-clause-keeps g c = writes_keeps g.N.Naming.program c.args.pair c.args.value _ _ _ (is_written g c)

pub returns-clause-known : goal.returns-clause-known
returns-clause-known g c = writes_known g.N.Naming.program c.args.pair c.args.value _ _ _ (is_written g c)
