use Rattle.std.proofs.Common.{arith, ◌≤◌, ◌+◌, ◌*◌, length}
use Rattle.and_judging.proofs.Altering.{count_few, variables_few, product_few}
use Rattle.and_judging.proofs.sorting.lifted_nodes.Goals as goal

pub overflow_add-nodes : goal.overflow_add-nodes
overflow_add-nodes c =
    let few : c.disjunction-item.result.count ≤ 4294967296 =
    count_few 4294967296 c.args.disjunctions.now c.loop-disjunction.disjunction-index c.disjunction-item.result c.loop-disjunction-test.true
    c.disjunction-item.is c.requires.few in
    omega (arith, few)

pub overflow_add-nodes-in-loop-disjunction : goal.overflow_add-nodes-in-loop-disjunction
overflow_add-nodes-in-loop-disjunction c =
    let narrow : length c.disjunction-item.result.variables.items ≤ 255 =
    variables_few 255 c.args.disjunctions.now c.loop-disjunction.disjunction-index c.disjunction-item.result c.loop-disjunction-test.true c.disjunction-item.is
    c.requires.narrow in
    omega (arith, narrow, c.len.ensures.value)

pub overflow_mul-nodes : goal.overflow_mul-nodes
overflow_mul-nodes c =
    let few : c.disjunction-item.result.count ≤ 4294967296 =
    count_few 4294967296 c.args.disjunctions.now c.loop-disjunction.disjunction-index c.disjunction-item.result c.loop-disjunction-test.true
    c.disjunction-item.is c.requires.few in
    let narrow : length c.disjunction-item.result.variables.items ≤ 255 =
    variables_few 255 c.args.disjunctions.now c.loop-disjunction.disjunction-index c.disjunction-item.result c.loop-disjunction-test.true c.disjunction-item.is
    c.requires.narrow in
    let product : (c.disjunction-item.result.count + 1) * (c.len.result + 1) ≤ 1099511628032 =
    product_few (c.disjunction-item.result.count + 1) (c.len.result + 1) (omega (arith, few)) (omega (arith, narrow, c.len.ensures.value)) in
    omega (arith, product)

pub overflow_add-nodes-in-loop-disjunction-2 : goal.overflow_add-nodes-in-loop-disjunction-2
overflow_add-nodes-in-loop-disjunction-2 c =
    let few : c.disjunction-item.result.count ≤ 4294967296 =
    count_few 4294967296 c.args.disjunctions.now c.loop-disjunction.disjunction-index c.disjunction-item.result c.loop-disjunction-test.true
    c.disjunction-item.is c.requires.few in
    let narrow : length c.disjunction-item.result.variables.items ≤ 255 =
    variables_few 255 c.args.disjunctions.now c.loop-disjunction.disjunction-index c.disjunction-item.result c.loop-disjunction-test.true c.disjunction-item.is
    c.requires.narrow in
    let product : (c.disjunction-item.result.count + 1) * (c.len.result + 1) ≤ 1099511628032 =
    product_few (c.disjunction-item.result.count + 1) (c.len.result + 1) (omega (arith, few)) (omega (arith, narrow, c.len.ensures.value)) in
    omega (arith, product, c.loop-disjunction.invariant.few, c.requires.room)
