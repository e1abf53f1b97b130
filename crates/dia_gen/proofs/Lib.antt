pub mod DraftLemmas
pub mod AheadLemmas
pub mod PairLemmas
pub mod DraftResult
pub mod Written
mod NothingWritten
pub mod MarkedLemmas
pub mod WritingLemmas
pub mod LogSpelling
pub mod BeginLemmas
mod KeptLemmas
pub mod DraftSteps
pub mod AheadSteps
pub mod EndLemmas
pub mod FallenLemmas
pub mod CubeLemmas
pub mod FreeSources
mod OneFile
mod GradedLemmas
mod TurnLemmas
