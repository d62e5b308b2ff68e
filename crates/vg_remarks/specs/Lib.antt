pub mod Addresses
pub mod Found
pub mod Lasts
pub mod Late
pub mod Packets
pub mod Remarks
pub mod Statements
