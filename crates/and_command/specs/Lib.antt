pub mod Checking
pub mod Commands
pub mod Forms
pub mod Given
pub mod Options
pub mod Values
