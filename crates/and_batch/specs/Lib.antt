pub mod Balance
pub mod Dones
pub mod Working
