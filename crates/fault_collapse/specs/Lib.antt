pub mod Forest
pub mod ForestFields
pub mod Underway
pub mod Laws
pub mod SubjectFields
