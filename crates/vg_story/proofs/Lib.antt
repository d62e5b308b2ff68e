pub mod VisitLemmas
pub mod FrontLemmas
pub mod WriteLemmas
pub mod ThereLemmas
pub mod LawLemmas
pub mod MatchLemmas
