pub mod Synth
pub mod Laws
