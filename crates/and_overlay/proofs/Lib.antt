mod PlaceLemmas
pub mod Owned
pub mod Knowing
pub mod Stepping
pub mod Setting
pub mod Numbers
pub mod Looking
mod Again
mod Kept
mod Sifting
