-- Packets whose bytes stand one behind the other.
use Rattle.std.specs.Prelude.{◌≡◌, ℕ, ◌+◌, ◌*◌, ◌<◌, ◌≤◌, List, [], ◌∷◌, length}
use Rattle.vg_underway.specs.declared.sent.SentEntry.{SentEntry}

-- how many bytes packets have together
abbrev pub total_len : List SentEntry → ℕ
total_len [] = 0
total_len (e ∷ es) = e.len + total_len es

-- how many their records have, with headers of 16 bytes
abbrev pub records_len : List SentEntry → ℕ
records_len entries = 16 * length entries + total_len entries

-- the bytes of packets stand in the first list, one behind the other, from this place on
abbrev pub ArePacked : ℕ → List SentEntry → Type 0
ArePacked start [] = Unit {0}
ArePacked start (e ∷ es) = (e.part ≡ 0) × (e.start ≡ start) × ArePacked (start + e.len) es

-- they fill a list of so many bytes, and there are no more of them than a capture has
pub record FillsList (len : ℕ) (entries : List SentEntry) : Type 0 where
  pub packed : ArePacked 0 entries
  pub all : total_len entries ≡ len
  pub few : length entries ≤ 65536

-- the number of each is below this one
abbrev pub IsNumbered : ℕ → List SentEntry → Type 0
IsNumbered most [] = Unit {0}
IsNumbered most (e ∷ es) = (e.number < most) × IsNumbered most es
