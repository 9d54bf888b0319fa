mod CellLemmas
pub mod StandingLemmas
mod OpenCells
mod Reading
pub mod Keeping
mod Loading
mod Repairing
pub mod Crashes
mod Results
mod ImageLemmas
mod AppendSteps
mod OpenSteps
