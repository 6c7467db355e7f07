pub mod Views
pub mod Standing
pub mod Answered
pub mod Seen
pub mod Reading
pub mod Causes
pub mod RefusalLine
pub mod Beginning
