-- Bytes in hexadecimal digits.
use Rattle.std.specs.Prelude.{ℕ, ◌+◌, ◌-◌, ◌*◌, ◌==◌, ◌&&◌, ◌||◌, Bool, nat_le, List, [], ◌∷◌, ◌++◌, Option, Some, None, is_none, if◌then◌else◌}

-- a digit, in lower case
abbrev pub is_digit : ℕ → Bool
is_digit byte = (nat_le 48 byte && nat_le byte 57) || (nat_le 97 byte && nat_le byte 102)

-- what a digit is worth
abbrev pub worth : ℕ → ℕ
worth byte = if nat_le byte 57 then byte - 48 else byte - 87

-- bytes with a byte behind them, where its first digit is known and this is the second
abbrev pub with_digit : List ℕ → Option ℕ → ℕ → List ℕ
with_digit bytes None digit = bytes
with_digit bytes (Some high) digit = bytes ++ (high * 16 + digit) ∷ []

-- the first digit of the next byte, where this one is no second
abbrev pub left_over : Option ℕ → ℕ → Option ℕ
left_over None digit = Some digit
left_over (Some high) digit = None

-- bytes, of which the last one's first digit may be known, and behind them those that pairs of digits say; blanks may stand anywhere
abbrev pub hex_read : List ℕ → Option ℕ → List ℕ → Option (List ℕ)
hex_read bytes high [] = if is_none high then Some bytes else None
hex_read bytes high (byte ∷ text) =
    if byte == 32 then hex_read bytes high text
    else if is_digit byte then hex_read (with_digit bytes high (worth byte)) (left_over high (worth byte)) text
    else None
