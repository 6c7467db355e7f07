pub mod FlowLemmas
pub mod MemoryLemmas
pub mod SureLemmas
