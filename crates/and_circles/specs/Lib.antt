pub mod Marked
pub mod Explored
pub mod Walks
pub mod Following
