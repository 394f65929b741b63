pub mod LookLemmas
pub mod WishLemmas
pub mod PutLemmas
pub mod ReadLemmas
