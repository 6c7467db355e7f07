pub mod Places
pub mod Telling
pub mod Visiting
pub mod Written
