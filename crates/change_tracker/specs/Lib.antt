pub mod Tracker
pub mod History
pub mod Rising
pub mod Touches
pub mod Maps
pub mod Fields
pub mod Laws
