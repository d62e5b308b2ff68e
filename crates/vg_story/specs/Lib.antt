pub mod Matches
pub mod Fronts
pub mod Fields
pub mod Changes
pub mod Reasons
pub mod Visits
pub mod Text
pub mod Laws
