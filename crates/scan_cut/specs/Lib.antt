-- The cut
pub mod Cut
-- Laws
pub mod Laws
-- What is known while it is made
pub mod Lines
pub mod Parts
