pub mod LineLemmas
pub mod LogLemmas
pub mod VectorLemmas
mod RowLemmas
pub mod ListingLemmas
