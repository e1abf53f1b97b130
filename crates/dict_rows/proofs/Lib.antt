pub mod RowLemmas
pub mod TableLemmas
pub mod EntryLemmas
pub mod GroupLemmas
pub mod RegroupLemmas
pub mod BlockWordLemmas
pub mod WordLemmas
