-- Items of goals.
pub use Rattle.and_branch_laws.proofs.Nodes.{item_there}
