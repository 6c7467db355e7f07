-- The node of a goal that can be judged.
pub use Rattle.and_branch_laws.proofs.Loading.{loaded_is}
pub use Rattle.and_branch_laws.proofs.Nodes.{clause_is_there, has_node, node_is}
