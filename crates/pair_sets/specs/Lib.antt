-- Sets of pairs, and those of a circuit's lines under a cube
pub mod PairSet
pub mod PairSetFields
pub mod Images
pub mod Cube
pub mod CubeState
-- Trees of cubes
pub mod Tree
pub mod Subtree
-- Changes, and what is kept up with them
pub mod Trail
pub mod Events
pub mod ConeFields
pub mod Spread
pub mod ShownFields
pub mod Tally
-- Simulations
pub mod PairSim
pub mod PairSimFields
pub mod Laws
