pub mod StageState
pub mod Staged
pub mod World
pub mod Events
pub mod Piece
pub mod DiskWorld
pub mod Asked
pub mod Laws
