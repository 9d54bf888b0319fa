pub mod MemberLemmas
pub mod MomentLemmas
pub mod LineLemmas
pub mod OrderLemmas
pub mod TreeLemmas
pub mod PutLemmas
pub mod NumberLemmas
