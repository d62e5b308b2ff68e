pub mod AddressLemmas
pub mod FoundLemmas
pub mod LastLemmas
pub mod PacketLemmas
pub mod PrefixLemmas
pub mod StatementLemmas
