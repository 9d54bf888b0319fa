pub mod ToJson
pub mod Values
pub mod Reply
pub mod Fits
pub mod Laws
