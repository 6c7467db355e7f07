pub mod Splitting
pub mod Ending
