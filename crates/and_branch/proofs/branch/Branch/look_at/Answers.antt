use Rattle.std.proofs.Common.{◌≡◌, length, sym, ap, subst}
use Rattle.and_program.specs.Items.{is_call_node, node_item}
use Rattle.and_cells.specs.Ranges.{NamedProgram, IsGoalInRange}
use Rattle.and_branch_laws.specs.Kept.{node_item_at}
use Rattle.and_branch_laws.proofs.Nodes.{node_is}
use Rattle.and_branch_parts.proofs.LoadedPrograms.{is_loaded}
use Rattle.and_branch_parts.proofs.LookedGoals.{in_range, judge_ready, kind}
use Rattle.and_branch.proofs.LookedItems.{is_a_call, is_arithmetic_then, node_there}
use Rattle.and_branch.proofs.branch.Branch.look_at.Goals as goal

pub item_of-item-requires : goal.item_of-item-requires
item_of-item-requires g c = (
  length c.args.self.now.row,
  subst (λ (p : NamedProgram). IsGoalInRange p (length c.args.self.now.row) c.args.goal) c.requires.program
      (in_range g.N.Naming.program c.args.self.now c.args.goal c.requires.at),
)

pub look_at_call-requires-clause-call : goal.look_at_call-requires-clause-call
look_at_call-requires-clause-call g c =
    let P = g.N.Naming.program in
    let laws = c.skeleton_is_of_the_program.ensures in
    let loaded = is_loaded P c.args.loaded.now c.requires.program laws.skeleton laws.own_variables laws.few in
    let is = sym (subst (λ (p : NamedProgram). node_item c.item_of-item.result ≡ node_item_at p c.args.goal) (sym c.requires.program)
    c.item_of-item.ensures) in
    λ _ _. is_a_call P loaded (length c.args.self.now.row) c.args.goal (in_range P c.args.self.now c.args.goal c.requires.at)
    (node_item c.item_of-item.result) is (ap is_call_node (c.called_by.ensures.call c.in-Some.node c.in-Some.is))

pub look_at_call-requires-clause-node : goal.look_at_call-requires-clause-node
look_at_call-requires-clause-node g c =
    let P = g.N.Naming.program in
    let laws = c.skeleton_is_of_the_program.ensures in
    let loaded = is_loaded P c.args.loaded.now c.requires.program laws.skeleton laws.own_variables laws.few in
    let is = sym (subst (λ (p : NamedProgram). node_item c.item_of-item.result ≡ node_item_at p c.args.goal) (sym c.requires.program)
    c.item_of-item.ensures) in
    let called = c.called_by.ensures.call c.in-Some.node c.in-Some.is in
    let within = in_range P c.args.self.now c.args.goal c.requires.at in
    let (term, is_call) = is_a_call P loaded (length c.args.self.now.row) c.args.goal within (node_item c.item_of-item.result) is (ap is_call_node called) in
    λ _ _. node_is P loaded c.args.self.now.row c.args.goal
    (judge_ready P c.args.self.now c.args.goal c.requires.at loaded term is_call) c.in-Some.node.0
    (node_there P loaded (length c.args.self.now.row) c.args.goal within (node_item c.item_of-item.result) is c.in-Some.node.0 called)

pub look_at_arithmetic-requires-clause-item : goal.look_at_arithmetic-requires-clause-item
look_at_arithmetic-requires-clause-item g c =
    sym (subst (λ (p : NamedProgram). node_item c.item_of-item.result ≡ node_item_at p c.args.goal) (sym c.requires.program) c.item_of-item.ensures)

pub look_at_arithmetic-requires-clause-arithmetic : goal.look_at_arithmetic-requires-clause-arithmetic
look_at_arithmetic-requires-clause-arithmetic g c =
    let P = g.N.Naming.program in
    let laws = c.skeleton_is_of_the_program.ensures in
    let loaded = is_loaded P c.args.loaded.now c.requires.program laws.skeleton laws.own_variables laws.few in
    let is = sym (subst (λ (p : NamedProgram). node_item c.item_of-item.result ≡ node_item_at p c.args.goal) (sym c.requires.program)
    c.item_of-item.ensures) in
    is_arithmetic_then P loaded (length c.args.self.now.row) c.args.goal (in_range P c.args.self.now c.args.goal c.requires.at)
    (node_item c.item_of-item.result) is (c.called_by.ensures.other c.in-None.is)
    (kind P c.args.self.now c.args.goal c.requires.at loaded)
