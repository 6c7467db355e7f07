pub mod Answered
pub mod Obeyed
