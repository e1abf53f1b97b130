pub mod Pending
pub mod QueueFields
