pub mod Tally
pub mod Notes
pub mod View
pub mod NotesView
