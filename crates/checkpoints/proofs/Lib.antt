pub mod LastDone
pub mod Order
