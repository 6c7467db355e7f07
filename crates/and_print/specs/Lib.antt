pub mod Given
pub mod Writing
pub mod Roots
pub mod Goals
pub mod Tasks
