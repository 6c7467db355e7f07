pub mod Walked
pub mod Forked
pub mod Existing
