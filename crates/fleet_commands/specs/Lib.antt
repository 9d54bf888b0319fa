pub mod Refusals
pub mod Machines
pub mod commands
pub mod Logs
