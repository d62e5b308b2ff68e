pub mod Pending
pub mod Placed
pub mod LendsBuffer
pub mod NodeSet
pub mod Waiting
pub mod Queue
