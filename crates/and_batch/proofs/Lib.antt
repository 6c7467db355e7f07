mod Moves
mod BelowCount
mod Called
mod Taking
mod Slots
