pub mod PlaceLemmas
pub mod SplitLemmas
pub mod RelevantLemmas
pub mod ListedLemmas
