pub mod Sorting
pub mod Dispatch
pub mod Laws
pub mod Runs
