use Rattle.std.proofs.Common.{ap, sym, ◌∙◌, subst, Option, IfOk, ℕ}
use Rattle.and_model.specs.Terms.{Term}
use Rattle.and_model.specs.OwnVariables.{AreOwn}
use Rattle.and_program.specs.Skeletons.{node_term}
use Rattle.and_program.specs.Nodes.{shapes_of}
use Rattle.and_clauses.specs.Copies.{IsNode}
use Rattle.and_clauses.specs.Lifts.{nodes_under, head_term}
use Rattle.and_clauses.proofs.Entries.{same_term, true_node}
use Rattle.and_clauses.proofs.making.head_node.Goals as goal

pub copied-requires-clause-own : goal.copied-requires-clause-own
copied-requires-clause-own c =
    let ss = nodes_under c.args.lifting in
    let own = subst (λ (h : Option ℕ). AreOwn 255 (head_term ss h)) c.in-Some.is c.requires.own in
    subst (AreOwn 255) (sym (same_term 255 (node_term ss c.in-Some.part) own)) own

pub returns-in-Some-clause-node : goal.returns-in-Some-clause-node
returns-in-Some-clause-node c =
    let ss = nodes_under c.args.lifting in
    let own = subst (λ (h : Option ℕ). AreOwn 255 (head_term ss h)) c.in-Some.is c.requires.own in
    subst (λ (t : Term). IfOk c.copied.result (λ n. IsNode (shapes_of c.copied.new.nodes.items) n.0 t))
    (same_term 255 (node_term ss c.in-Some.part) own ∙ sym (ap (head_term ss) c.in-Some.is)) c.copied.ensures.term

pub returns-in-None-clause-node : goal.returns-in-None-clause-node
returns-in-None-clause-node c =
    let ss = nodes_under c.args.lifting in
    subst (λ (h : Option ℕ). IsNode (shapes_of c.args.nodes.now.items) 0 (head_term ss h)) (sym c.in-None.is)
    (true_node (shapes_of c.args.nodes.now.items) c.requires.begins)
