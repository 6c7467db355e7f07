pub mod Parts
pub mod KeptFrames
pub mod KeptParts
