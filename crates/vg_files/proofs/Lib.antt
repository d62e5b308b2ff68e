pub mod LoadLemmas
pub mod PrintLemmas
pub mod ScriptLemmas
