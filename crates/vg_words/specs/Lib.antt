pub mod Command
pub mod Checks
pub mod Parser
pub mod Ranges
pub mod Shown
