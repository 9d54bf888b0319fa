pub mod Story
pub mod View
pub mod Rule
pub mod Pass
pub mod Turn
