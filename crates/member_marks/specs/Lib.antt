pub mod Given
pub mod Counts
