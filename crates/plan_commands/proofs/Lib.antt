pub mod Counting
pub mod Known
pub mod Planned
pub mod Begun
pub mod Cutovers
pub mod Numbers
pub mod Carried
