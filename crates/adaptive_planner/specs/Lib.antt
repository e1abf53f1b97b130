pub mod Planned
pub mod Promises
pub mod Laws
pub mod Numbering
pub mod Counting
pub mod Parting
pub mod Planning
pub mod CircuitNumbers
