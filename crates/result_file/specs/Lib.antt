pub mod Lines
pub mod Summary
pub mod Valid
pub mod Refusal
pub mod Accepted
pub mod Meaning
pub mod Laws
