pub mod Parts
pub mod SourceDisk
pub mod StandsFor
pub mod FromLog
pub mod Refusals
pub mod Laws
