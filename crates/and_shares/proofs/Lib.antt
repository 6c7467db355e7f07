pub mod Moves
pub mod Totals
