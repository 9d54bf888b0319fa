pub mod Calendar
pub mod Moments
pub mod Way
pub mod Book
pub mod Plans
pub mod Laws
pub mod SmallPlans
