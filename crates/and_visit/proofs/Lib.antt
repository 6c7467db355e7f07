pub mod Turns
pub mod Told
pub mod Owing
pub mod Splitting
pub mod Going
pub mod Topped
pub mod EndsTold
