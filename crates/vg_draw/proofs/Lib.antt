pub mod AnyLemmas
pub mod CountLemmas
pub mod EndLemmas
pub mod LineLemmas
pub mod PrefixLemmas
pub mod OnceLemmas
pub mod ShareLemmas
