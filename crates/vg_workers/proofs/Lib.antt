pub mod PlaceLemmas
pub mod LinkLemmas
pub mod ClosingLemmas
pub mod CrewLemmas
pub mod EndedLemmas
pub mod OrderLemmas
