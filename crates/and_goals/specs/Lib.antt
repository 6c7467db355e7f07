pub mod Balance
pub mod Hands
