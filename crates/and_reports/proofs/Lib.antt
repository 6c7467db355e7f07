pub mod CheckingLemmas
pub mod ShowingLemmas
pub mod StatusLemmas
