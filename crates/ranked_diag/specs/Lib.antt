pub mod Seen
pub mod PartialLog
pub mod PartialLines
pub mod Mismatches
pub mod SeenWords
pub mod Ranked
pub mod Laws
