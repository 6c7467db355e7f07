use Rattle.std.proofs.Common.{◌≡◌, length, get_or, arith}
use Rattle.and_program.specs.Nodes.{shapes_of}
use Rattle.and_judging.specs.Outlined.{named_at}
use Rattle.and_clauses.specs.Lifts.{names_under, named_under}
use Rattle.and_clauses.proofs.LiftClauses.{size_of_nodes, few_read, count_read, head_more, head_end}
use Rattle.and_clauses.proofs.lifting.lifted_head.Goals as goal

pub overflow_cast-number : goal.overflow_cast-number
overflow_cast-number c =
    let few = few_read c.args.lifting.disjunctions.now c.args.disjunction c.index-lifting-disjunction.result c.requires.there c.requires.lifting.few in
    omega (
      arith,
      few,
      c.len-count.ensures.value,
      c.loop-number-test.true,
    )

pub variable_node-requires : goal.variable_node-requires
variable_node-requires c =
    let few = few_read c.args.lifting.disjunctions.now c.args.disjunction c.index-lifting-disjunction.result c.requires.there c.requires.lifting.few in
    omega (
      arith,
      size_of_nodes c.loop-number.nodes.items,
      c.loop-number.invariant.row.grown.few,
      c.requires.room.room,
      few,
      c.len-count.ensures.value,
    )

pub loop-number-preserved : goal.loop-number-preserved
loop-number-preserved c =
    let few = few_read c.args.lifting.disjunctions.now c.args.disjunction c.index-lifting-disjunction.result c.requires.there c.requires.lifting.few in record {
      row = head_more (length (names_under c.args.lifting)) (shapes_of c.args.nodes.now.items) (shapes_of c.loop-number.nodes.items)
          (shapes_of c.variable_node.new.nodes.items)
          c.len-count.result c.loop-number.number c.loop-number.arguments.items c.push.new.self.items c.in_ok-variable_node.field-0 c.loop-number.invariant.row
          c.loop-number-test.true (omega (
            arith,
            few,
            c.len-count.ensures.value,
          )) c.in_ok-variable_node.ensures.put
          c.in_ok-push.ensures.items;
    }

pub call_node-requires : goal.call_node-requires
call_node-requires c =
    let few = few_read c.args.lifting.disjunctions.now c.args.disjunction c.index-lifting-disjunction.result c.requires.there c.requires.lifting.few in
    omega (
      arith,
      size_of_nodes c.loop-number.nodes.items,
      c.loop-number.invariant.row.grown.few,
      c.requires.room.room,
      few,
      c.len-count.ensures.value,
    )

pub returns-clause-grown : goal.returns-clause-grown
returns-clause-grown c =
    let few = few_read c.args.lifting.disjunctions.now c.args.disjunction c.index-lifting-disjunction.result c.requires.there c.requires.lifting.few in
    let count : length (named_at (named_under c.args.lifting) c.args.disjunction).variables
    ≡ c.len-count.result = omega (
      arith,
      count_read c.args.lifting.disjunctions.now c.args.disjunction c.index-lifting-disjunction.result c.requires.there c.args.lifting.numbers.now
          c.requires.lifting.numbered,
      c.len-count.ensures.value,
    ) in
    (head_end c.call_node.result (length (names_under c.args.lifting)) (shapes_of c.args.nodes.now.items) (shapes_of c.loop-number.nodes.items)
    (shapes_of c.call_node.new.nodes.items)
    (named_at (named_under c.args.lifting) c.args.disjunction) c.len-count.result c.loop-number.number c.name_of-name.result.0 c.loop-number.arguments.items
    c.name_of-name.ensures.name count c.loop-number.invariant.row (omega (arith, c.loop-number-test.false, c.loop-number.auto.number-end))
    c.name_of-name.ensures.within
    (omega (arith, few, c.len-count.ensures.value))
    c.call_node.ensures.put).0

pub returns-clause-head : goal.returns-clause-head
returns-clause-head c =
    let few = few_read c.args.lifting.disjunctions.now c.args.disjunction c.index-lifting-disjunction.result c.requires.there c.requires.lifting.few in
    let count : length (named_at (named_under c.args.lifting) c.args.disjunction).variables
    ≡ c.len-count.result = omega (
      arith,
      count_read c.args.lifting.disjunctions.now c.args.disjunction c.index-lifting-disjunction.result c.requires.there c.args.lifting.numbers.now
          c.requires.lifting.numbered,
      c.len-count.ensures.value,
    ) in
    (head_end c.call_node.result (length (names_under c.args.lifting)) (shapes_of c.args.nodes.now.items) (shapes_of c.loop-number.nodes.items)
    (shapes_of c.call_node.new.nodes.items)
    (named_at (named_under c.args.lifting) c.args.disjunction) c.len-count.result c.loop-number.number c.name_of-name.result.0 c.loop-number.arguments.items
    c.name_of-name.ensures.name count c.loop-number.invariant.row (omega (arith, c.loop-number-test.false, c.loop-number.auto.number-end))
    c.name_of-name.ensures.within
    (omega (arith, few, c.len-count.ensures.value))
    c.call_node.ensures.put).1
