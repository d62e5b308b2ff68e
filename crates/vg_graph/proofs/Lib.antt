pub mod ListLemmas
pub mod ViewLemmas
pub mod SearchLemmas
pub mod KeptLemmas
