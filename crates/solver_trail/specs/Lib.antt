pub mod Assignment
pub mod StackFields
pub mod LinkCode
pub mod Watches
pub mod Trail
pub mod TrailFields
pub mod Propagation
pub mod Laws
