pub mod Untold
