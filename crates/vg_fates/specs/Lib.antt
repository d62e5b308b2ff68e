pub mod Logs
pub mod Seen
