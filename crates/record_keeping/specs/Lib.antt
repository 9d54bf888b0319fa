pub mod Keeping
pub mod Refusal
