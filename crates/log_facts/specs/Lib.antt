pub mod Places
pub mod Snapshots
pub mod Disks
pub mod LogFacts
