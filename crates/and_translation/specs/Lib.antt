pub mod Bodies
pub mod Translation
