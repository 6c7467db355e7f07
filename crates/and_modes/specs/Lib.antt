pub mod Modes
pub mod Kept
pub mod Asked
pub mod Totals
pub mod Walked
pub mod Known
pub mod Looked
pub mod Waiting
