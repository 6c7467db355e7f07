pub mod Found
pub mod Ended
