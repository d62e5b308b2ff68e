pub mod HashLemmas
pub mod MergeLemmas
pub mod MaskLemmas
pub mod SideLemmas
pub mod DiffLemmas
pub mod ExactLemmas
