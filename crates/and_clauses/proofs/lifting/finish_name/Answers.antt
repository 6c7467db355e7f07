use Rattle.std.proofs.Common.{ℕ, Vec, Global, vec_len, arith, ap, ◌∙◌, ◌-◌, ◌≡◌, length, take, drop}
use Rattle.and_model.specs.declared.numbers.NodeNo.{NodeNo}
use Rattle.and_program.specs.Nodes.{shapes_of}
use Rattle.and_clauses.proofs.CopySteps.{tail_of, finished_nodes, finished_rest}
use Rattle.and_clauses.proofs.lifting.finish_name.Goals as goal

count : (n : ℕ) (v : Vec NodeNo Global) → n ≡ vec_len v → n ≡ length v.items
count n v e = omega (arith, e, v.ok.0)

pub returns-clause-nodes : goal.returns-clause-nodes
returns-clause-nodes c =
    finished_nodes (shapes_of c.args.nodes.now.items) (shapes_of c.push_node.new.nodes.items) c.args.name.0 c.args.finished.now.items
    c.in_ok-arguments.arguments.items
    (length c.args.finished.now.items - c.args.count)
    (c.in_ok-arguments.ensures.items ∙ tail_of (c.len.result - c.args.count) c.args.finished.now.items c.deref.result.now c.deref.ensures.value
    ∙ ap (λ n. drop (n - c.args.count) c.args.finished.now.items) (count c.len.result c.args.finished.now c.len.ensures))
    c.in_ok-node.ensures.nodes

pub returns-clause-finished : goal.returns-clause-finished
returns-clause-finished c =
    finished_rest c.args.finished.now.items c.truncate.new.self.items c.push.new.self.items c.in_ok-node.node (length c.args.finished.now.items - c.args.count)
    (length (shapes_of c.args.nodes.now.items))
    (c.truncate.ensures.items ∙ ap (λ n. take (n - c.args.count) c.args.finished.now.items) (count c.len.result c.args.finished.now c.len.ensures))
    c.in_ok-push.ensures.items c.in_ok-node.ensures.number
