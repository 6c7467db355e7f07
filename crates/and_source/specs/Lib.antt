pub mod Source
pub mod Unfolding
pub mod SourceListing
pub mod Lifted
