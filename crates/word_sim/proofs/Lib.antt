pub mod Digits
pub mod Columns
pub mod Written
pub mod Drawn
pub mod SeenLane
pub mod Settled
pub mod Counted
pub mod Examples
