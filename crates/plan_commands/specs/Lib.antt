pub mod Asked
pub mod Machines
pub mod commands
pub mod Carrying
pub mod Laws
