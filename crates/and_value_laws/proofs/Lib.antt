pub mod KnownTerms
