pub mod Ground
pub mod Ownership
