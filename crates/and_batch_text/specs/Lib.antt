pub mod Queries
pub mod Singles
pub mod Refused
pub mod Views
