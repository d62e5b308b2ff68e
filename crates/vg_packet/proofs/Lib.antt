pub mod SumLemmas
pub mod UpdateLemmas
pub mod Examples
pub mod HeaderLemmas
