pub mod PairLemmas
pub mod NameLemmas
pub mod FilledRanges
pub mod SlotLemmas
pub mod VolumeLemmas
pub mod StoreLemmas
