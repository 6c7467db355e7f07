pub mod Searched
pub mod Walking
