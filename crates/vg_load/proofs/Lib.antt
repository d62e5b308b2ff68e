pub mod PacketLemmas
pub mod SavedLemmas
pub mod ScriptExamples
