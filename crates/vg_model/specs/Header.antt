-- The IPv4 header and its checksum (RFC 791, section 3.1; RFC 1071, sections 1 and 2).
use Rattle.std.specs.Prelude.{ℕ, zero, suc, ◌+◌, ◌-◌, ◌*◌, ◌/◌, ◌%◌, Bool, true, false, ◌==◌, nat_lt, List, [], ◌∷◌, slice_index, slice_set}
use Rattle.std.specs.Int.{w16, to_be_bytes}
use Rattle.vg_model.specs.Bytes.{overwritten}

-- ones' complement addition: the carry comes back in at the low end (RFC 1071, section 1)
unfoldable pub ones_sum : ℕ → ℕ → ℕ
ones_sum a b = (a + b) % 65536 + (a + b) / 65536

-- the ones' complement sum of the 16-bit words (RFC 1071, section 1)
abbrev pub header_sum : List ℕ → ℕ
header_sum [] = 0
header_sum (high ∷ []) = 256 * high
header_sum (high ∷ low ∷ rest) = ones_sum (256 * high + low) (header_sum rest)

-- a header verifies where its sum has all 16 bits set (RFC 1071, section 1)
abbrev pub verifies : List ℕ → Bool
verifies header = header_sum header == 65535

-- the checksum is the complement of the sum, taken with the checksum field zero (RFC 791, section 3.1)
abbrev pub checksum : List ℕ → ℕ
checksum header = 65535 - header_sum (overwritten header 10 (0 ∷ 0 ∷ []))

-- the header with its checksum field computed anew
abbrev pub with_checksum : List ℕ → List ℕ
with_checksum header = overwritten header 10 (to_be_bytes w16 (checksum header))

-- the header with the time to live less by one (RFC 1812, section 5.3.1)
abbrev pub lowered : List ℕ → List ℕ
lowered header = with_checksum (slice_set header 8 (slice_index header 8 - 1))

-- the plain sum of the 16-bit words, with no carry brought back in
abbrev pub word_sum : List ℕ → ℕ
word_sum [] = 0
word_sum (high ∷ []) = 256 * high
word_sum (high ∷ low ∷ rest) = 256 * high + low + word_sum rest

-- at most so many times, as long as a sum has more than 16 bits, its upper bits are added to its lower 16 bits
abbrev pub folded_within : ℕ → ℕ → ℕ
folded_within zero sum = sum
folded_within (suc times) sum = elim (nat_lt 65535 sum) [ true ↦ folded_within times (sum % 65536 + sum / 65536) | false ↦ sum ]

-- the sum with its upper bits added to its lower 16 bits as long as it has more than 16: each time makes it less, so at most
-- as many times as it says
abbrev pub folded : ℕ → ℕ
folded sum = folded_within sum sum
