pub mod ChainPaths
pub mod Closures
pub mod Distances
pub mod LeastPaths
pub mod LevelSearch
pub mod Moves
pub mod Remaining
