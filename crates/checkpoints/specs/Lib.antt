pub mod Checkpoint
pub mod DataVolume
pub mod Laws
pub mod SmallImports
