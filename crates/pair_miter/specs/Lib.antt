-- The clauses of a pair
pub mod Variables
pub mod Operand
pub mod Rows
pub mod Miter
pub mod MiterView
pub mod Numbering
pub mod MiterFields
pub mod SplitLines
-- Writing clauses into a pool
pub mod Adds
pub mod Marks
-- Logs of resolutions
pub mod ChainView
pub mod Resolution
pub mod Fresh
pub mod Log
pub mod Laws
