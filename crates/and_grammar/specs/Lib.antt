pub mod Views
pub mod Copies
pub mod Acts
pub mod Checked
pub mod Translated
pub mod Counts
pub mod Plain
