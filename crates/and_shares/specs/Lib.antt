pub mod Bags
pub mod Balance
