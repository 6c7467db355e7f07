pub mod Scripted
pub mod ThreeCodes
