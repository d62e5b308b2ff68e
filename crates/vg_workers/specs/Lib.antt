pub mod Places
pub mod Linked
pub mod Closing
pub mod Linking
pub mod Crews
pub mod Ended
