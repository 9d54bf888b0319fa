mod Splits
pub mod There
pub mod Folding
pub mod StrangeNumbers
pub mod Staying
pub mod TakenOnes
pub mod Agreeing
mod LogReading
