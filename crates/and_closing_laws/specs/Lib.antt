pub mod Phases
pub mod Acting
