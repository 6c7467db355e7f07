mod CopiedGoals
mod Passing
mod Stacks
mod WatchedGoals
