pub mod Faults
pub mod Left
-- What is known on the way.
pub mod Progress
pub mod EvidenceChecker
pub mod EvidenceCheckerFields
pub mod Checker
pub mod Reader
pub mod Rest
