pub mod RowsLemmas
pub mod TurnedLemmas
pub mod SettledLemmas
pub mod ShownLemmas
pub mod DifferenceLemmas
