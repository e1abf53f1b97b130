pub mod Applied
pub mod Bridges
pub mod Faults
pub mod Laws
pub mod Plans
pub mod Suspects
pub mod Texts
