pub mod Gathering
pub mod Beginning
pub mod Whole
pub mod Closing
pub mod Mapping
pub mod Counted
pub mod Agreeing
mod Sending
