pub mod Asking
pub mod Items
pub mod AtWork
pub mod Running
pub mod Waiting
