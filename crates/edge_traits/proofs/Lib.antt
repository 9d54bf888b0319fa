mod Pieces
mod Spans
pub mod Images
