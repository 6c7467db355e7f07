pub use Rattle.and_step_laws.proofs.KeptGoals
pub use Rattle.and_step_laws.proofs.KeptRuns
mod AskingNothing
pub mod Goals
pub mod Outcomes
pub mod Noting
pub mod NotedSteps
pub mod NumbersSet
mod SettledAsked
mod TakenHeads
mod Writing
