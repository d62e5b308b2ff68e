-- Texts that are cut at a byte.
use Rattle.std.specs.Prelude.{◌≡◌, ℕ, ◌<◌, ◌≤◌, ◌==◌, List, [], length, Option, Some, None}
use Rattle.std.specs.List.{position_or_len, before_first, after_first, slice_split}

-- the text is cut at its first byte of this value into what stands before and behind it; None where there is none
abbrev pub IsCut : ℕ → List ℕ → Option (List ℕ × List ℕ) → Type 0
IsCut mark text None = length text ≤ position_or_len (λ byte. byte == mark) text
IsCut mark text (Some cut) =
    (position_or_len (λ byte. byte == mark) text < length text) × (cut.0 ≡ before_first (λ byte. byte == mark) text)
    × (cut.1 ≡ after_first (λ byte. byte == mark) text)

-- the parts that are left
abbrev pub parts_of : ℕ → Option (List ℕ) → List (List ℕ)
parts_of mark (Some text) = slice_split (λ byte. byte == mark) text
parts_of mark None = []
