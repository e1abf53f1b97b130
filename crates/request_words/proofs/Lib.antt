pub mod NumberWords
pub mod WordLemmas
