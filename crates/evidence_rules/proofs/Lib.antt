pub mod Steps
pub mod Sound
pub mod ChainLaws
pub mod LogLaws
pub mod TreeLaws
