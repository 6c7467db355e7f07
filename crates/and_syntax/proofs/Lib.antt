pub mod OwnVariables
pub mod Numbering
pub mod Names
pub mod Calls
