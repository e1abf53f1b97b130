pub mod TextLemmas
mod AnswerLemmas
mod RootLemmas
mod LaneLemmas
mod EqualRoots
mod SimulatedLemmas
