pub mod FindingLemmas
pub mod RecordLemmas
pub mod SentLemmas
pub mod WantedLemmas
