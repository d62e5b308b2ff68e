pub mod Places
pub mod Savefile
pub mod RoundTrip
pub mod Time
