pub mod Moves
pub mod Quit
