pub mod PlainTree
pub mod Histories
pub mod Covering
