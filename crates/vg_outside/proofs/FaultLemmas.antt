-- For callers that save or print more than once: counts of faults over several calls.
use Rattle.std.proofs.Common.{ℕ, ◌≤◌, arith}
use Rattle.vg_outside.specs.Files.{Rose}

-- a count that rose in a later call rose since an earlier moment
pub rose_since : (first before now : ℕ) → first ≤ before → Rose before now → Rose first now
rose_since first before now h rose = omega arith

-- a count that rose in a call has risen at every later moment
pub rose_until : (before now last : ℕ) → Rose before now → now ≤ last → Rose before last
rose_until before now last rose h = omega arith
