pub mod Faults
pub mod Calls
pub mod Refusal
pub mod Spelled
pub mod Replaced
pub mod Generator
pub mod Bits
pub mod Prefix
