pub mod Packets
pub mod Saved
pub mod Scripts
pub mod Summary
