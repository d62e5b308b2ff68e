pub mod Kinds
pub mod Files
pub mod Plan
pub mod Checks
pub mod Stops
pub mod Refusals
pub mod Printing
