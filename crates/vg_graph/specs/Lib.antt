pub mod View
pub mod Refusals
pub mod Reach
pub mod NewArc
