pub mod Phases
pub mod Table
pub mod Edges
pub mod Paths
pub mod Laws
