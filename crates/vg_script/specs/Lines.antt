-- The lines of a script, and the words of a line (this project's profile).
use Rattle.std.specs.Prelude.{ℕ, Bool, not, ◌&&◌, ◌||◌, ◌==◌, nat_lt, nat_le, List, [], ◌∷◌, length, filter, if◌then◌else◌}
use Rattle.std.specs.List.{before_first, slice_split, onto_first}

-- each line feed ends a line, and bytes behind the last one make a line too, if there are any
abbrev pub lines : List ℕ → List (List ℕ)
lines [] = []
lines (byte ∷ bytes) = if byte == 10 then [] ∷ lines bytes else onto_first byte (lines bytes)

-- a line up to its first `#`; the rest is a comment
abbrev pub without_comment : List ℕ → List ℕ
without_comment line = before_first (λ byte. byte == 35) line

-- a space, a tab or a carriage return
abbrev pub is_blank : ℕ → Bool
is_blank byte = byte == 32 || byte == 9 || byte == 13

-- what may stand outside comments: a blank, or a visible character of ASCII
abbrev pub is_allowed : ℕ → Bool
is_allowed byte = is_blank byte || (nat_le 0x21 byte && nat_le byte 0x7e)

-- what may stand outside comments and begins none
abbrev pub is_plain : ℕ → Bool
is_plain byte = is_allowed byte && not (byte == 35)

-- the words of a text: its longest runs of bytes that are no blanks
abbrev pub words : List ℕ → List (List ℕ)
words text = filter (λ word. nat_lt 0 (length word)) (slice_split is_blank text)
