pub mod PendingLemmas
pub mod QueueLemmas
pub mod StoreLemmas
