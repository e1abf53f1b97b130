pub mod Made
pub mod Laws
pub mod GenerationSetting
pub mod Settled
pub mod Draft
pub mod Marked
pub mod Writing
