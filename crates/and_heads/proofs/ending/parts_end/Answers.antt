use Rattle.std.proofs.Common.{◌≡◌, ◌<◌, length, sym, subst, false, inl, inr, arith}
use Rattle.std.proofs.lemmas.Bool.{cases_lt}
use Rattle.and_program.specs.Loaded.{arguments_at}
use Rattle.and_cells.specs.Ranges.{IsInRange}
use Rattle.and_cells.specs.Ends.{Ends}
use Rattle.and_circles.specs.Following.{argument_part}
use Rattle.and_circles.proofs.Sufficing.{part_found, part_fits}
use Rattle.and_cells.specs.Parts.{named}
use Rattle.and_heads.proofs.Placing.{node_in, node_at, node_read, node_there}
use Rattle.and_heads.proofs.ending.parts_end.Goals as goal

pub loop-place-init : goal.loop-place-init
loop-place-init g c = λ k below. absurd (omega arith)

pub resolve-part-requires-clause-there : goal.resolve-part-requires-clause-there
resolve-part-requires-clause-there g c =
    let P = g.N.Naming.program in
    let Q = named c.args.loaded.now in
    let nodes = c.arguments-nodes.result.now in
    let at = node_at P Q c.args.node.0 c.args.count c.loop-place.place nodes c.requires.program c.arguments-nodes.ensures c.requires.count
    c.loop-place-test.true in
    node_there Q (record { node = c.args.node; base = c.args.base }) nodes c.arguments-nodes.ensures c.loop-place.place at P c.requires.program c.requires.falls
    c.requires.in_range.0.there

pub part_ends-requires-clause-in_range : goal.part_ends-requires-clause-in_range
part_ends-requires-clause-in_range g c =
    let P = g.N.Naming.program in
    let row = c.args.cells.now in
    let many = c.requires.count in
    let below : c.loop-place.place < length (arguments_at P.skeleton c.args.node.0) = let at = c.loop-place-test.true in omega arith in
    let nodes = c.arguments-nodes.result.now in
    let at = node_at P (named c.args.loaded.now) c.args.node.0 c.args.count c.loop-place.place nodes c.requires.program c.arguments-nodes.ensures
    c.requires.count c.loop-place-test.true in
    let node = node_read _ nodes c.arguments-nodes.ensures c.loop-place.place at in
    let is = part_found P row c.args.node c.args.base c.args.loaded.now (node_in nodes c.loop-place.place).0 c.loop-place.place c.resolve-part.result
    c.requires.program
    c.resolve-part.ensures node in
    subst (IsInRange P (length row)) (sym is) (part_fits P row c.args.node c.args.base c.requires.falls c.requires.in_range c.loop-place.place below)

pub loop-place-preserved : goal.loop-place-preserved
loop-place-preserved g c = λ k below.
    let P = g.N.Naming.program in
    let row = c.args.cells.now in
    let nodes = c.arguments-nodes.result.now in
    let at = node_at P (named c.args.loaded.now) c.args.node.0 c.args.count c.loop-place.place nodes c.requires.program c.arguments-nodes.ensures
    c.requires.count c.loop-place-test.true in
    let node = node_read _ nodes c.arguments-nodes.ensures c.loop-place.place at in
    let is = part_found P row c.args.node c.args.base c.args.loaded.now (node_in nodes c.loop-place.place).0 c.loop-place.place c.resolve-part.result
    c.requires.program
    c.resolve-part.ensures node in
    let here = subst (Ends P row c.args.floor false) is (c.part_ends.ensures c.if-not-part_ends.false) in
    elim (cases_lt k c.loop-place.place) [
      | inl before ↦ c.loop-place.invariant k before
      | inr past ↦
          let same : c.loop-place.place ≡ k = omega arith in
          subst (λ n. Ends P row c.args.floor false (argument_part P c.args.node c.args.base n)) same here
    ]

pub returns : goal.returns
returns g c = λ _ k below. let past = c.loop-place-test.false in c.loop-place.invariant k (omega arith)
