pub mod Calls
pub mod Ending
pub mod Entering
pub mod Owing
pub mod Parts
