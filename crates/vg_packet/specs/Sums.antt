-- Sums of the words of a header (RFC 1071, section 2).
use Rattle.std.specs.Prelude.{ℕ, ◌+◌, ◌*◌, List, ◌∷◌}

-- the plain sum of the 32-bit words, with no carry brought back in
abbrev pub pair_sum : List ℕ → ℕ
pair_sum (a ∷ b ∷ c ∷ d ∷ rest) = 16777216 * a + 65536 * b + 256 * c + d + pair_sum rest
pair_sum rest = 0
