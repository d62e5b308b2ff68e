pub mod Entries
pub mod Laws
pub mod Numbers
pub mod Order
pub mod Spans
pub mod Table
pub mod Trie
