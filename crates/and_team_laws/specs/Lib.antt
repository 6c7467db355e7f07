pub mod Owed
pub mod Done
pub mod Runs
