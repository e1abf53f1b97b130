pub mod Regions
pub mod Literals
pub mod Numbered
pub mod PartialLemmas
pub mod ProperLemmas
