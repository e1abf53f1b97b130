pub mod Checked
pub mod Compactions
pub mod Plans
pub mod Synthesis
pub mod Texts
pub mod WrittenOut
