pub mod Remaining
pub mod ThinResult
pub mod Compacted
pub mod Laws
-- What is known on the way.
pub mod Earlier
pub mod Sharing
pub mod Mixed
pub mod Numbered
pub mod Thinning
pub mod Keeping
pub mod Stated
