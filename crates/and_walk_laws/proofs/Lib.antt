pub mod Walking
pub mod Numbering
pub mod Rising
pub mod Owing
pub mod Forking
