mod Examples
pub mod RecordLemmas
pub mod LimitLemmas
pub mod RoundTripLemmas
pub mod TimeLemmas
pub mod WriteLemmas
mod PlaceLemmas
