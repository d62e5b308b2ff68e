pub mod SumLemmas
pub mod TotalLemmas
pub mod NoteLemmas
