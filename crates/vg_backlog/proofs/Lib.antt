pub mod QueueLemmas
pub mod AdvanceLemmas
pub mod PushLemmas
pub mod SendLemmas
