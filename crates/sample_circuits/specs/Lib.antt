pub mod Described
pub mod Digits
