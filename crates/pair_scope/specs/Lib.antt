-- Marked numbers, and lines by their places
pub mod Listed
pub mod Places
-- The scope of a pair
pub mod PairScope
pub mod ScopeFields
