mod Becoming
mod Beginning
mod Begins
pub mod Calls
mod Comparing
mod Constants
mod Filling
mod Looking
mod Meeting
mod Noting
mod Pairing
mod Parting
mod Placing
pub mod Sending
