use Rattle.std.proofs.Common.{◌≡◌, ◌<◌, length, inl, inr, refl, subst, false, arith}
use Rattle.std.proofs.lemmas.Bool.{cases_lt}
use Rattle.and_program.specs.Loaded.{arguments_at}
use Rattle.and_cells.specs.Parts.{named, part_at}
use Rattle.and_cells.specs.Ends.{Ends}
use Rattle.and_circles.proofs.Sufficing.{structure_ends}
use Rattle.and_heads.proofs.Placing.{node_in, as_many_nodes, node_read, node_there}
use Rattle.and_heads.proofs.ending.has_constants_alone.Goals as goal

pub loop-place-init : goal.loop-place-init
loop-place-init c = λ k below. absurd (omega arith)

pub is_constant-requires : goal.is_constant-requires
is_constant-requires c =
    let P = named c.args.loaded.now in
    node_there P (record { node = c.args.node; base = 0 }) c.arguments-nodes.result.now c.arguments-nodes.ensures c.loop-place.place c.loop-place-test.true
    P refl c.requires.falls c.requires.there

pub loop-place-preserved : goal.loop-place-preserved
loop-place-preserved c = λ k below row floor base.
    let P = named c.args.loaded.now in
    let nodes = c.arguments-nodes.result.now in
    elim (cases_lt k c.loop-place.place) [
      | inl before ↦ c.loop-place.invariant k before row floor base
      | inr past ↦
          let same : c.loop-place.place ≡ k = omega arith in
          subst (λ n. Ends P row floor false (part_at P base (node_in nodes n).0)) same (c.is_constant.ensures c.if-not-is_constant.false row floor base)
    ]

pub returns : goal.returns
returns c = λ _ row floor base.
    let P = named c.args.loaded.now in
    let nodes = c.arguments-nodes.result.now in
    structure_ends P row c.args.node base floor (λ place below.
    let many = as_many_nodes (arguments_at P.skeleton c.args.node.0) nodes c.arguments-nodes.ensures in
    let past = c.loop-place-test.false in
    let here : place < length nodes = omega (arith, many, below) in
    let is = node_read (arguments_at P.skeleton c.args.node.0) nodes c.arguments-nodes.ensures place here in
    subst (λ n. Ends P row floor false (part_at P base n)) is (c.loop-place.invariant place (let far : place < c.loop-place.place = omega (arith, many, below, past) in far) row floor base))
