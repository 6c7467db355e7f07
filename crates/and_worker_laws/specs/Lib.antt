pub mod Acts
pub mod Facts
pub mod Unfolding
pub mod Leavings
pub mod Reading
pub mod Standing
pub mod Leaving
pub mod PhaseCells
