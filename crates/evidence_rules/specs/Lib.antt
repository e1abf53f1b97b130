pub mod TreeRefusal
pub mod LogRefusal
pub mod Laws
