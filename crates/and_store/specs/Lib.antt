pub mod Sight
pub mod Kept
pub mod Told
pub mod Passes
pub mod Calls
pub mod Ended
pub mod Worked
pub mod Left
