pub mod Events
pub mod Steps
pub mod Taking
pub mod Holding
pub mod Answering
pub mod Untouched
