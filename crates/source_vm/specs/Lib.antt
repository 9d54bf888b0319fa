pub mod Live
pub mod KeptFacts
pub mod MachineLog
pub mod Refusals
pub mod Machine
pub mod Disks
pub mod Laws
