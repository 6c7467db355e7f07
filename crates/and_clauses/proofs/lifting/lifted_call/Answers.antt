use Rattle.std.proofs.Common.{ap, sym, ◌∙◌, length, arith}
use Rattle.and_program.specs.Nodes.{shapes_of}
use Rattle.and_judging.specs.Sorts.{own}
use Rattle.and_clauses.specs.Copies.{numbering_at}
use Rattle.and_judging.specs.Outlined.{named_at}
use Rattle.and_clauses.specs.Lifts.{names_under, named_under}
use Rattle.and_clauses.proofs.LiftClauses.{size_of_nodes, few_read, variables_read, count_read, call_more, call_end}
use Rattle.and_clauses.proofs.lifting.lifted_call.Goals as goal

pub variable_node-requires : goal.variable_node-requires
variable_node-requires c =
    let count = count_read c.args.lifting.disjunctions.now c.args.disjunction c.index-lifting-disjunction.result c.requires.there c.args.lifting.numbers.now
    c.requires.lifting.numbered in
    omega (
      arith,
      size_of_nodes c.loop-variable.nodes.items,
      c.loop-variable.invariant.row.grown.few,
      c.requires.room.room,
      count,
      ap length c.as_slice-variables.ensures,
    )

pub loop-variable-preserved : goal.loop-variable-preserved
loop-variable-preserved c =
    let vars = variables_read c.args.lifting.disjunctions.now c.args.disjunction c.index-lifting-disjunction.result c.requires.there c.args.lifting.numbers.now
    c.requires.lifting.numbered ∙ ap own (sym c.as_slice-variables.ensures) in record {
      row = call_more (numbering_at c.args.scope) (length (names_under c.args.lifting)) (shapes_of c.args.nodes.now.items)
          (shapes_of c.loop-variable.nodes.items)
          (shapes_of c.variable_node.new.nodes.items) (named_at (named_under c.args.lifting) c.args.disjunction).variables c.as_slice-variables.result.now
          c.loop-variable.variable-index
          c.number_in-number.result c.loop-variable.arguments.items c.push.new.self.items c.in_ok-variable_node.field-0 vars c.loop-variable.invariant.row
          c.loop-variable-test.true
          c.requires.own c.number_in-number.ensures c.in_ok-variable_node.ensures.put c.in_ok-push.ensures.items;
    }

pub call_node-requires : goal.call_node-requires
call_node-requires c =
    let count = count_read c.args.lifting.disjunctions.now c.args.disjunction c.index-lifting-disjunction.result c.requires.there c.args.lifting.numbers.now
    c.requires.lifting.numbered in
    omega (
      arith,
      size_of_nodes c.loop-variable.nodes.items,
      c.loop-variable.invariant.row.grown.few,
      c.requires.room.room,
      count,
      ap length c.as_slice-variables.ensures,
    )

pub returns-clause-grown : goal.returns-clause-grown
returns-clause-grown c =
    let vars = variables_read c.args.lifting.disjunctions.now c.args.disjunction c.index-lifting-disjunction.result c.requires.there c.args.lifting.numbers.now
    c.requires.lifting.numbered ∙ ap own (sym c.as_slice-variables.ensures) in
    let few = few_read c.args.lifting.disjunctions.now c.args.disjunction c.index-lifting-disjunction.result c.requires.there c.requires.lifting.few in
    (call_end c.call_node.result (numbering_at c.args.scope) (length (names_under c.args.lifting)) (shapes_of c.args.nodes.now.items)
    (shapes_of c.loop-variable.nodes.items)
    (shapes_of c.call_node.new.nodes.items) (named_at (named_under c.args.lifting) c.args.disjunction) c.as_slice-variables.result.now
    c.loop-variable.variable-index c.name_of-name.result.0 c.loop-variable.arguments.items c.name_of-name.ensures.name vars c.loop-variable.invariant.row
    c.loop-variable-test.false c.name_of-name.ensures.within
    (omega (arith, few, ap length c.as_slice-variables.ensures)) c.call_node.ensures.put).0

pub returns-clause-call : goal.returns-clause-call
returns-clause-call c =
    let vars = variables_read c.args.lifting.disjunctions.now c.args.disjunction c.index-lifting-disjunction.result c.requires.there c.args.lifting.numbers.now
    c.requires.lifting.numbered ∙ ap own (sym c.as_slice-variables.ensures) in
    let few = few_read c.args.lifting.disjunctions.now c.args.disjunction c.index-lifting-disjunction.result c.requires.there c.requires.lifting.few in
    (call_end c.call_node.result (numbering_at c.args.scope) (length (names_under c.args.lifting)) (shapes_of c.args.nodes.now.items)
    (shapes_of c.loop-variable.nodes.items)
    (shapes_of c.call_node.new.nodes.items) (named_at (named_under c.args.lifting) c.args.disjunction) c.as_slice-variables.result.now
    c.loop-variable.variable-index c.name_of-name.result.0 c.loop-variable.arguments.items c.name_of-name.ensures.name vars c.loop-variable.invariant.row
    c.loop-variable-test.false c.name_of-name.ensures.within
    (omega (arith, few, ap length c.as_slice-variables.ensures)) c.call_node.ensures.put).1
