pub mod Walked
pub mod Finding
