pub mod Fronts
pub mod Began
