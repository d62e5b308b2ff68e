pub mod BlockLemmas
pub mod FirstLemmas
pub mod ListedLemmas
pub mod OrderLemmas
pub mod QueuedLemmas
pub mod RestLemmas
pub mod RunLemmas
pub mod TimedLemmas
