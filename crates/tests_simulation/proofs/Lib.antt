pub mod LeaverRow
