pub mod Parts
pub mod Numbered
pub mod Variables
pub mod Drafts
