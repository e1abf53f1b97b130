pub mod ByClass
pub mod ByRoot
pub mod Apart
pub mod Blocks
pub mod Laws
pub mod Setting
