pub mod Meeting
pub mod Calling
pub mod WholeTrees
pub mod Soundness
