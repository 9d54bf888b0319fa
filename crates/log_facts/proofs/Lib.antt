pub mod PlaceLemmas
pub mod DiskLemmas
pub mod SnapshotLemmas
pub mod StageLemmas
pub mod LookupLemmas
