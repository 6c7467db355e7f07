pub mod Alike
pub mod Trials
