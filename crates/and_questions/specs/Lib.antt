pub mod Lifted
pub mod Explained
pub mod Batched
pub mod Forked
pub mod Linted
pub mod Verified
pub mod Replied
