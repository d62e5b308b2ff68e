pub mod Builds
pub mod Hex
pub mod Holds
pub mod Names
pub mod Records
