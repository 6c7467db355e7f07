pub mod Quoting
pub mod Reading
pub mod Scanning
pub mod Views
