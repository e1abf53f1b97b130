pub mod CellLemmas
pub mod LoopWalks
pub mod SynthStatements
pub mod SynthOrder
pub mod SynthAccepted
