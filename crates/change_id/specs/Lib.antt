pub mod ChangeId
pub mod History
pub mod HistoryLaws
pub mod Laws
pub mod Filtered
