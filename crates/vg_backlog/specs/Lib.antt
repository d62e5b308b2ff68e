pub mod Books
pub mod Queues
