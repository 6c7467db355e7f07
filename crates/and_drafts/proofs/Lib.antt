pub mod Drafting
pub mod Naming
pub mod Noting
pub mod Reading
pub mod Meeting
pub mod Telling
