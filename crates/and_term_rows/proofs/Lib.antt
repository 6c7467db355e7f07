pub mod Glimpses
pub mod Small
pub mod Structures
