pub mod Copies
pub mod Pending
