pub mod Machines
pub mod ReadLogs
pub mod BorneOut
pub mod Standing
pub mod Agrees
pub mod Laws
pub mod Refusal
pub mod Reopening
