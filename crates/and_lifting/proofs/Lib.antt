mod Fronts
mod Renaming
mod Closures
mod Avoiding
mod Inside
mod Matching
mod Replacing
mod Places
mod Numbered
mod Taking
mod Stages
mod Outcomes
pub mod Listing
mod TrialSteps
mod AnswersTrial
mod ForksTrial
mod GuardsTrial
mod NestedTrial
