pub mod Moves
pub mod Seats
mod Behind
mod Emptying
mod Stealing
mod Sums
mod Rounds
mod Turns
mod Takings
