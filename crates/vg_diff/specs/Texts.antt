-- The words of what is printed.
use Rattle.std.specs.Prelude.{ℕ, List, [], ◌∷◌, ◌++◌, flat_map, decimal}
pub use Rattle.vg_script.specs.Plain.{pair_text}

-- bytes as hexadecimal digits, or `-` where there is none
abbrev pub hex_text : List ℕ → List ℕ
hex_text [] = 45 ∷ []
hex_text (byte ∷ bytes) = flat_map pair_text (byte ∷ bytes)

-- the beginning of a line: a word and a number, each with a space behind it
abbrev pub line_begin : List ℕ → ℕ → List ℕ
line_begin word number = word ++ (32 ∷ (decimal number ++ 32 ∷ []))

-- a line of a word and a number
abbrev pub count_line : List ℕ → ℕ → List ℕ
count_line word count = word ++ (32 ∷ (decimal count ++ 10 ∷ []))
