pub mod TurnLemmas
pub mod DecisionLemmas
pub mod ThreadLemmas
pub mod CrossingRules
pub mod SendLemmas
