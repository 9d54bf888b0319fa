pub mod TokenLemmas
pub mod FitLemmas
pub mod LineLemmas
pub mod ReadLemmas
pub mod ReplyLemmas
pub mod OneLineLemmas
