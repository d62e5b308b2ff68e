pub mod Asked
pub mod Drawn
pub mod Reading
pub mod Run
pub mod Dues
pub mod Expected
