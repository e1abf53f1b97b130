pub mod Turned
pub mod Ways
pub mod Places
pub mod HeadsFields
pub mod Laws
