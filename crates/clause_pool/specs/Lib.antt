pub mod Literal
pub mod LiteralCode
pub mod Clauses
pub mod PoolFields
pub mod Partial
pub mod Proper
