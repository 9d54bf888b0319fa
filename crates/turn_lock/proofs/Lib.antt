pub mod Stories
pub mod Seats
pub mod Steps
pub mod Tickets
pub mod Numbers
pub mod Joins
pub mod Ends
pub mod Passes
