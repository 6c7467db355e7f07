pub mod Kept
pub mod Order
pub mod Tails
pub mod Pieces
pub mod LinePieces
pub mod Runs
pub mod Merged
