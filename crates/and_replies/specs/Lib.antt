pub mod Handed
pub mod Keeping
pub mod Finding
