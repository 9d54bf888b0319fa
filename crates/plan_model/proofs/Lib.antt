pub mod ListFacts
pub mod Accepted
pub mod Days
pub mod Written
