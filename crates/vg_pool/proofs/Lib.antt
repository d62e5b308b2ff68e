pub mod SettleLemmas
pub mod SendLemmas
pub mod AreaLemmas
pub mod ChainLemmas
pub mod BlockLemmas
pub mod PartLemmas
