pub mod Looks
pub mod Prints
pub mod Served
pub mod Sieves
pub mod Tables
pub mod Selecting
