pub mod AskLemmas
pub mod ObeyLemmas
