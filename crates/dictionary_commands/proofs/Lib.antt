pub mod FullApart
pub mod MadeLemmas
pub mod MostApart
