pub mod Lines
pub mod LogText
pub mod VectorText
pub mod Laws
