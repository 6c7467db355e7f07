use Rattle.std.proofs.Common.{ap, ◌∙◌}
use Rattle.and_syntax.specs.Written.{place}
use Rattle.and_program.specs.Nodes.{names_of}
use Rattle.and_drafts.specs.Parts.{part_shape, arguments_of}
use Rattle.and_judging.proofs.ConjunctLemmas.{arguments_fit, conjunct_is}
use Rattle.and_judging.proofs.items.part_as_conjunct.Goals as goal

pub conjunct_named-requires : goal.conjunct_named-requires
conjunct_named-requires c =
    arguments_fit c.args.parts.now c.args.number c.args.base c.index-parts-number.result c.in-Compound.arguments.items c.as_slice.result.now c.requires.falls
    c.requires.there c.index-parts-number.is
    (ap (λ p. arguments_of (part_shape p)) c.in-Compound.is) c.as_slice.ensures c.requires.room

pub returns-in-Compound : goal.returns-in-Compound
returns-in-Compound c =
    conjunct_is (names_of c.args.names.now.keys) c.args.parts.now c.args.base c.args.number c.index-parts-number.result c.in-Compound.name
    c.in-Compound.arguments.items c.as_slice.result.now c.number_of.result c.conjunct_named.result
    c.requires.there c.index-parts-number.is (ap part_shape c.in-Compound.is) c.as_slice.ensures (c.number_of.ensures
    ∙ ap (λ x. place x (names_of c.args.names.now.keys)) c.bytes.ensures) c.conjunct_named.ensures
