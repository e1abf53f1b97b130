pub mod NameLemmas
pub mod FitLemmas
pub mod TableLemmas
pub mod LoopLemmas
-- What the laws rest on
pub mod OrderLemmas
pub mod SiteLemmas
