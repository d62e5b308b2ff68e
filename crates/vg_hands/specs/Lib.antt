pub mod Handed
pub mod Filling
