-- The rows that lines name.
use Rattle.std.specs.Prelude.{◌≡◌, ◌<◌, ◌≤◌, ℕ, Bool, List, [], ◌∷◌, length, map, take, drop, codes, string_bytes, bytes_eq, if◌then◌else◌}
use Rattle.std.specs.Borrow.{Bor}
use Rattle.vg_row.specs.declared.cursor.Lines.{Lines}
use Rattle.vg_row.specs.declared.cursor.Said.{Said}
use Rattle.vg_row.specs.declared.cursor.Said.TheVariants.{Row as SaysRow}
use Rattle.vg_row.specs.declared.rows.Row.{Row}

-- a line that begins a row
abbrev pub begins_row : List ℕ → Bool
begins_row line = bytes_eq (take 4 line) (codes "row ")

-- the names of the rows that lines begin, in their order
abbrev pub names_said : List (Bor (List ℕ)) → List (List ℕ)
names_said [] = []
names_said (line ∷ lines) = if begins_row line.now then drop 4 line.now ∷ names_said lines else names_said lines

-- the names in lines that are still to be read
abbrev pub names_left : Lines → List (List ℕ)
names_left lines = names_said lines.rest.now

-- the name that a line says, in front of others
abbrev pub name_and : Said → List (List ℕ) → List (List ℕ)
name_and (SaysRow name) names = name.now ∷ names
name_and _ names = names

-- the names of rows
abbrev pub names_of : List Row → List (List ℕ)
names_of rows = map (λ row. string_bytes row.name) rows

-- of the lines that are still to be read some were taken, of which none begins a row
abbrev pub Goes : Lines → Lines → Type 0
Goes old new = (names_left new ≡ names_left old) × (length new.rest.now ≤ length old.rest.now)

-- the same, and at least one was taken
abbrev pub Advances : Lines → Lines → Type 0
Advances old new = (names_left new ≡ names_left old) × (length new.rest.now < length old.rest.now)
