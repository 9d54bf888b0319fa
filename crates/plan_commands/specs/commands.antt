pub mod Plan
pub mod Start
pub mod Cutover
pub mod Status
