mod BodyGoals
mod Loops
mod Present
mod Stepping
mod Walking
