mod PlaceLemmas
mod PackedLemmas
mod WrittenLemmas
