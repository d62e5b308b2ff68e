-- The update of a checksum as one word of the header changes (RFC 1624, section 3).
use Rattle.std.specs.Prelude.{◌≡◌, ◌≢◌, ℕ, ◌+◌, ◌-◌, ◌≤◌, true, List, length, slice_index}
use Rattle.vg_model.specs.Bytes.{number16_at}
use Rattle.vg_model.specs.Header.{folded, verifies, lowered}
use Rattle.vg_model.specs.Valid.{AreBytes}

-- the ones' complement of a 16-bit word
abbrev pub complement : ℕ → ℕ
complement word = 65535 - word

-- the checksum after one word has changed, from the checksum and the word before, and the word after (RFC 1624,
-- equation 3: HC' = ~(~HC + ~m + m'))
abbrev pub updated : (checksum before after : ℕ) → ℕ
updated checksum before after = complement (folded (complement checksum + complement before + after))

-- a header whose time to live was lowered verifies
abbrev pub LoweredVerifies : Type 0
LoweredVerifies = (header : List ℕ) → AreBytes header → 20 ≤ length header → verifies (lowered header) ≡ true

-- where a header verifies, the update for the word of its time to live is the checksum computed anew
abbrev pub UpdatesAsAnew : Type 0
UpdatesAsAnew =
    (header : List ℕ) → AreBytes header → 20 ≤ length header → verifies header ≡ true
    → slice_index header 0 ≢ 0 → 1 ≤ slice_index header 8
    → updated (number16_at header 10) (number16_at header 8) (number16_at (lowered header) 8) ≡ number16_at (lowered header) 10
