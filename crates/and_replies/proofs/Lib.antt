pub mod BatchLemmas
pub mod CheckLemmas
pub mod ExplainLemmas
pub mod LintLemmas
pub mod PartLemmas
pub mod TopLemmas
pub mod VerifyLemmas
