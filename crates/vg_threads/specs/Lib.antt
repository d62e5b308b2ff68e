pub mod Turns
pub mod Leads
pub mod Renewals
pub mod Ties
pub mod Starts
