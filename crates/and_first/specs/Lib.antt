pub mod First
pub mod Steps
pub mod Telling
