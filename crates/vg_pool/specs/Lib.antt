pub mod Contents
pub mod Areas
pub mod Parts
pub mod Blocks
pub mod Settlement
pub mod Moves
pub mod Laws
