pub mod Placed
pub mod Working
pub mod Copying
pub mod Props
