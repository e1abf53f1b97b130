pub mod Destinations
pub mod Numbers
pub mod Slots
pub mod Names
pub mod Scope
pub mod Laws
