pub mod Host
pub mod Vm
pub mod Deed
pub mod Write
pub mod Snapshot
pub mod Query
pub mod Read
pub mod Inventory
