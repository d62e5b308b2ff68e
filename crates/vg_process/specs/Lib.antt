pub mod Kept
pub mod Left
pub mod Queued
pub mod Rest
pub mod Timed
pub mod Waiting
