pub mod Operators
pub mod Glances
pub mod Sizes
pub mod Taken
pub mod Turns
