mod Bounds
mod Loops
mod ReadyGoals
mod Wholeness
