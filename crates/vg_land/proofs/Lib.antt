pub mod Arcs
pub mod Crosses
pub mod Lands
pub mod Laying
pub mod Lodging
pub mod Rows
pub mod Vecs
pub mod Walks
