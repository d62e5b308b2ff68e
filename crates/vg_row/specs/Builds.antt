-- What a line makes of the bytes that the lines above it say.
use Rattle.std.specs.Prelude.{◌≡◌, ℕ, ◌++◌, List, [], ◌∷◌, Option, Some, None, bytes_eq, codes, if◌then◌else◌, option_map, replicate, string_bytes, take}
use Rattle.vg_row.specs.Hex.{hex_read}
use Rattle.vg_row.specs.Records.{header, with_record}
use Rattle.vg_row.specs.declared.building.Form.{Form}
use Rattle.vg_row.specs.declared.building.Form.TheVariants.{Line, Text, Hex, Zeros, Header, Frame, As, Cut, Change}
use Rattle.vg_row.specs.declared.records.Marks.{Marks}
use Rattle.vg_row.specs.declared.rows.Kept.{Kept}

-- of two texts, parted by ` => `, the second stands where the first stood
abbrev pub IsChanged : List ℕ → List ℕ → List ℕ → Type 0
IsChanged text old new = (one other front back : List ℕ) × (text ≡ one ++ (codes " => " ++ other)) × (old ≡ front ++ (one ++ back))
    × (new ≡ front ++ (other ++ back))

-- the bytes of the first part of a name
abbrev pub bytes_named : List Kept → List ℕ → Option (List ℕ)
bytes_named [] name = None
bytes_named (part ∷ parts) name = if bytes_eq (string_bytes part.name) name then Some part.bytes.items else bytes_named parts name

-- what a line of a form, with this text behind its word, makes of bytes below these parts
abbrev pub Builds : Form → List Kept → List ℕ → List ℕ → List ℕ → Type 0
Builds Line parts text old new = new ≡ old ++ (text ++ 10 ∷ [])
Builds Text parts text old new = new ≡ old ++ text
Builds Hex parts text old new = hex_read old None text ≡ Some new
Builds Zeros parts text old new = (count : ℕ) × (new ≡ old ++ replicate count 0)
Builds Header parts text old new = new ≡ old ++ header
Builds Frame parts text old new = (marks : Marks) × (digits : List ℕ) × (frame : List ℕ) × (hex_read [] None digits ≡ Some frame)
    × (new ≡ with_record marks frame old)
Builds As parts text old new = option_map (λ bytes. old ++ bytes) (bytes_named parts text) ≡ Some new
Builds Cut parts text old new = (len : ℕ) × (new ≡ take len old)
Builds Change parts text old new = IsChanged text old new
