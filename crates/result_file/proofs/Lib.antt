pub mod LineLemmas
pub mod RightLines
pub mod RightEvidence
pub mod Truth
-- Lines and refusals
pub mod FirstLine
pub mod RefusalLemmas
pub mod FileLemmas
pub mod StatedLines
-- Valid is true
mod ShapeLemmas
pub mod ValidTrue
pub mod SoundLemmas
-- Closed classes
mod ClosedLemmas
