pub mod Growing
pub mod Late
pub mod Small
