pub mod Additions
pub mod FirstArguments
pub mod Keys
pub mod Lists
pub mod Tables
