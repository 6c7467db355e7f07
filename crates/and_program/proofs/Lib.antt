pub mod NodeTerms
pub mod PredicateLemmas
pub mod LoadedLemmas
pub mod MemberLemmas
