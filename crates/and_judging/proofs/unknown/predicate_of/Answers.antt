use Rattle.std.proofs.Common.{arith}
use Rattle.and_program.specs.Nodes.{names_of}
use Rattle.and_drafts.proofs.Naming.{place-le}
use Rattle.and_judging.proofs.UnknownLemmas.{variable_called, number_called, compound_called}
use Rattle.and_judging.proofs.unknown.predicate_of.Goals as goal

pub overflow_cast-result : goal.overflow_cast-result
overflow_cast-result c =
    omega (arith, place-le c.bytes.result.now (names_of c.args.names.now.keys), c.number_of.ensures, c.requires.few_names)

pub returns-in-Compound : goal.returns-in-Compound
returns-in-Compound c = λ line.
    compound_called (names_of c.args.names.now.keys) c.args.parts.now c.args.part.0 c.index-parts-part.result c.requires.falls c.requires.there
    c.index-parts-part.is line c.in-Compound.name c.in-Compound.arguments c.bytes.result.now c.number_of.result c.len.result c.in-Compound.is
    c.bytes.ensures c.number_of.ensures c.len.ensures.value

pub returns-in-Variable : goal.returns-in-Variable
returns-in-Variable c = λ line.
    variable_called (names_of c.args.names.now.keys) c.args.parts.now c.args.part.0 c.index-parts-part.result c.requires.falls c.requires.there
    c.index-parts-part.is line c.in-Variable.field-0 c.in-Variable.field-1 c.in-Variable.is

pub returns-in-Integer : goal.returns-in-Integer
returns-in-Integer c = λ line.
    number_called (names_of c.args.names.now.keys) c.args.parts.now c.args.part.0 c.index-parts-part.result c.requires.falls c.requires.there
    c.index-parts-part.is line c.in-Integer.field-0 c.in-Integer.is
