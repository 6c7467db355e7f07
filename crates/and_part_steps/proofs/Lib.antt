pub mod NewFrames
pub mod Taking
pub mod Beginning
pub mod Running
pub mod KeptGoals
