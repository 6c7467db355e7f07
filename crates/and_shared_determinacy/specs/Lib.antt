pub mod Truths
pub mod Matches
pub mod Weighing
pub mod Sifting
