use Rattle.std.proofs.Common.{ap, ◌∙◌}
use Rattle.and_syntax.specs.Written.{place}
use Rattle.and_program.specs.Nodes.{names_of}
use Rattle.and_drafts.specs.Parts.{part_shape}
use Rattle.and_judging.proofs.Halving.{sides_is}
use Rattle.and_judging.proofs.judging.clause_sides.Goals as goal

pub returns-in-Compound : goal.returns-in-Compound
returns-in-Compound c =
    sides_is (names_of c.args.names.now.keys) c.args.parts.now c.args.root c.index-parts-root.result c.in-Compound.name c.in-Compound.arguments.items
    c.as_slice.result.now c.number_of.result c.sides_of.result
    c.requires c.index-parts-root.is (ap part_shape c.in-Compound.is) c.as_slice.ensures (c.number_of.ensures
    ∙ ap (λ x. place x (names_of c.args.names.now.keys)) c.bytes.ensures) c.sides_of.ensures
