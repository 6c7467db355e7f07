pub mod Determined
pub mod Carrying
pub mod KeptKeys
pub mod CoveringForks
