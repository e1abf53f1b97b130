pub mod AnswerLemmas
mod NoteLemmas
mod TurnLemmas
mod AskLemmas
mod ApartLemmas
mod FirstLane
mod GroupLemmas
mod UnitLemmas
mod WaitLemmas
mod OrderLemmas
mod LeaveLemmas
mod SameCuts
mod CubeLemmas
pub mod KeepLemmas
pub mod JudgeLemmas
mod LaneLemmas
mod RootLemmas
mod ScanLemmas
pub mod ListLemmas
pub mod StreamLemmas
pub mod PartedLemmas
pub mod Separating
mod StandingLemmas
mod StandingLanes
