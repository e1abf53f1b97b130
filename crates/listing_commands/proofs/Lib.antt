pub mod AlikeLemmas
pub mod BridgeLemmas
pub mod OwnPatterns
pub mod SimLemmas
pub mod PartedLemmas
