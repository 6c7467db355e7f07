pub mod Examples
pub mod Steps
pub mod Derived
pub mod Accepted
pub mod Closing
pub mod Texts
pub mod Begun
