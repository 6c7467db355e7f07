pub mod Derivations
pub mod Grammars
pub mod Texts
