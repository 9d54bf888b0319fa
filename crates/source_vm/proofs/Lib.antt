pub mod LiveLemmas
pub mod FactLemmas
pub mod DiskLemmas
pub mod MachineLemmas
pub mod Additions
