pub mod PacketLemmas
pub mod SendLemmas
pub mod StepLemmas
