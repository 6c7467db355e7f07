pub mod Atoms
pub mod Texts
