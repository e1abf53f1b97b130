pub mod RecordLists
pub mod Marked
mod TreeLines
-- Spellings
pub mod FieldLemmas
pub mod OnceLemmas
mod ReadLemmas
mod SoFarLemmas
mod AnswerLemmas
-- Lines
pub mod HeldLemmas
mod PieceLemmas
