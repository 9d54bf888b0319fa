pub mod MaskBits
pub mod Masks
pub mod Pairs
pub mod Options
pub mod Keys
pub mod Slots
pub mod Writes
pub mod Stacks
pub mod States
pub mod Touching
pub mod Histories
pub mod Keeping
pub mod LayerSteps
pub mod LayersRead
pub mod Blocks
pub mod Puts
mod InPlace
