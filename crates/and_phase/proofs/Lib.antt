mod Calls
mod JoinedBranches
mod Jobs
mod Later
mod Left
