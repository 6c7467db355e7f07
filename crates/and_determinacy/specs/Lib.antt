pub mod Candidates
pub mod Parting
pub mod Searches
pub mod Seeing
pub mod Trials
pub mod Watching
