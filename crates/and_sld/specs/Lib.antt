pub mod Resolution
pub mod Relevant
pub mod Atoms
pub mod Computed
pub mod Trials
