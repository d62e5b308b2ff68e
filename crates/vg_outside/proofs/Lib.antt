pub mod FaultLemmas
pub mod FolderLemmas
