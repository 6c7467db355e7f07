pub mod Advanced
pub mod Joined
pub mod Leading
pub mod Sighting
