pub mod Searched
pub mod Found
pub mod Levels
pub mod Asked
pub mod Open
pub mod Frames
pub mod End
