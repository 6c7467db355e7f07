pub mod Images
pub mod Linking
pub mod Measures
pub mod Turns
pub mod Trees
