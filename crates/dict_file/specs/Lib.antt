pub mod Packing
pub mod Spelling
pub mod Parts
pub mod Reading
pub mod Laws
pub mod Heads
pub mod Words
pub mod Places
