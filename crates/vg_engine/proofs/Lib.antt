pub use Rattle.vg_workers.proofs.PlaceLemmas
pub mod SeatLemmas
pub mod TieLemmas
pub mod EndLemmas
pub mod OutcomeLemmas
pub mod RingLemmas
