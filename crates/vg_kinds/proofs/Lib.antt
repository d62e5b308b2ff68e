pub mod AroundLemmas
pub mod StepLemmas
