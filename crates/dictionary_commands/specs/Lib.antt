pub mod AdaptivePlans
pub mod Dictionaries
pub mod Plans
pub mod Rankings
pub mod Texts
