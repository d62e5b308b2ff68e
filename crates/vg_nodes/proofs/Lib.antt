pub mod RunLemmas
pub mod UnderwayLemmas
pub mod RewriteLemmas
pub mod SortedLemmas
pub mod HeadLemmas
