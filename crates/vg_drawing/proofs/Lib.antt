pub mod PrintLemmas
pub mod GenerationLemmas
pub mod RunLemmas
pub mod ExpectedLemmas
