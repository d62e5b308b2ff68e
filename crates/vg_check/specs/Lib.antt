pub mod Output
pub mod OneWorker
pub mod Congestion
pub mod Hands
pub mod Reports
pub mod Saves
pub mod Points
pub mod Verdicts
