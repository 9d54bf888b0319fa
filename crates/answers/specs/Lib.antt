pub mod Refusal
pub mod Answer
