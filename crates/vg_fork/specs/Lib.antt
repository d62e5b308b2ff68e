pub mod Forked
pub mod View
