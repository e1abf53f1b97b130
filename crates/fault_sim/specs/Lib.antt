pub mod Rows
pub mod RowsFields
pub mod TurnedLines
pub mod Events
pub mod FaultSim
pub mod FaultSimFields
