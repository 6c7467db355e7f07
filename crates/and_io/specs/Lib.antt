pub mod Flow
pub mod Memory
pub mod ReadAll
pub mod Std
pub mod Sure
