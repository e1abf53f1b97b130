pub mod Rows
pub mod AnswerTable
pub mod AnswerTableFields
pub mod Entries
pub mod Grouped
pub mod Dictionary
