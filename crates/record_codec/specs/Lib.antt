pub mod Record
pub mod Parse
pub mod Decoded
pub mod Laws
