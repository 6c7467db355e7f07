pub mod Steps
pub mod Adding
pub mod Counts
pub mod Growing
pub mod Tasks
pub mod Marking
pub mod Faces
pub mod Valueless
