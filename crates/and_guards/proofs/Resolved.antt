-- Where the terms of nodes are found.
pub use Rattle.and_branch_laws.proofs.Loading.{resolved_is, falls_in}
pub use Rattle.and_branch_laws.proofs.Resolved.{part_in_range, part_written, part_names_below, resolved_not_below}
