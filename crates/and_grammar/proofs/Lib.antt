pub mod CopyLemmas
pub mod Viewing
pub mod Looking
pub mod Standing
pub mod ThreadLemmas
pub mod TranslateLemmas
pub mod CountLemmas
pub mod PlainLemmas
