pub mod Spelling
pub mod Limits
pub mod Marks
pub mod Reading
pub mod Held
pub mod Laws
