pub mod Header
pub mod nodes
pub mod Visit
pub mod lawful
