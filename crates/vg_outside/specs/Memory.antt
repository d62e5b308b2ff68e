-- A folder and a sink in memory.
use Rattle.std.specs.Prelude.{ℕ, List, map, min, Option, Vec, String, string_bytes}
use Rattle.std.specs.Option.{option_map_or}
use Rattle.std.specs.FinMap.{from_entries}
use Rattle.std.specs.BTreeMap.{BTreeMap}
use Rattle.std.specs.declared.alloc.Global.{Global}
use Rattle.std.specs.declared.num.NonZeroUsize.{NonZeroUsize}
use Rattle.std.specs.Int.NonZero.{non_zero_usize_get}
use Rattle.vg_outside.specs.Files.{Files}

-- the names' bytes and the files' bytes
abbrev pub files_of : BTreeMap (String Global) (Vec ℕ Global) → Files
files_of m = from_entries (map {B = List ℕ × List ℕ} (λ e. (string_bytes e.0, e.1.items)) m.entries)

-- how many bytes of a piece one call takes: all of them, or at most so many
abbrev pub taken_length : Option NonZeroUsize → ℕ → ℕ
taken_length most n = option_map_or (λ m. min (non_zero_usize_get m) n) most n
