pub mod Documents
pub mod Proofs
pub mod Unfolding
pub mod Stacks
pub mod Predicates
pub mod Rounds
pub mod Written
pub mod Entries
