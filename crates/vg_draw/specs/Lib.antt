pub mod Prefixes
pub mod Drawing
pub mod Once
pub mod Ends
