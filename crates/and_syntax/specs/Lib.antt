pub mod Written
pub mod Clauses
pub mod Tables
