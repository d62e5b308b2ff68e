pub mod Sums
pub mod Update
