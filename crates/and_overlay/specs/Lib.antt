pub mod Places
pub mod Overlaid
pub mod Settings
pub mod Props
