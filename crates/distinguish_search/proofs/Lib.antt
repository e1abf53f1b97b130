pub mod Walks
pub mod FrameLemmas
pub mod Leaves
pub mod SearchSteps
pub mod LevelLemmas
