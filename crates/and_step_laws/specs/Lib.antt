pub mod Runs
pub mod Assigning
pub mod Running
pub mod Frames
pub mod Asking
