mod LineLemmas
pub mod Lines
pub mod Numbers
pub mod Pieces
pub mod Reading
pub mod Taken
pub mod Texts
