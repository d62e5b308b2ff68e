-- The table of what differs: each class with its number and one example.
use Rattle.std.specs.Prelude.{◌≡◌, ℕ, Bool, false, ◌==◌, List, [], ◌∷◌, ◌++◌, length, map, flat_map, slice_get, codes, decimal, bytes_eq, Option, Some, None, is_none}
use Rattle.std.specs.Option.{option_map_or}
use Rattle.vg_match.specs.declared.fields.Field.{Field}
use Rattle.vg_match.specs.Fields.{all_fields, field_name}
use Rattle.vg_model.specs.declared.kinds.DropError.{DropError}
use Rattle.vg_model.specs.Errors.{all_errors, error_number, error_word}
use Rattle.vg_report.specs.declared.reports.PacketEnd.{PacketEnd}
use Rattle.vg_report.specs.declared.reports.PacketEnd.TheVariants as ends
use Rattle.vg_report.specs.declared.reports.PacketLine.{PacketLine}
use Rattle.vg_diff.specs.declared.lines.Findings.{Findings}
use Rattle.vg_diff.specs.Lines.{Row, AreInOrder, turned, number_at, frame_at, place_text, change_of}
use Rattle.vg_diff.specs.Numbers.{number_if}

-- ---- a line

-- the second word of a class and a space, where it has one
abbrev pub part_text : List ℕ → List ℕ
part_text [] = []
part_text (byte ∷ bytes) = (byte ∷ bytes) ++ 32 ∷ []

-- the words of a class
abbrev pub class_begin : (word part : List ℕ) → List ℕ
class_begin word part = codes "class " ++ (word ++ (32 ∷ part_text part))

-- how many packets are in a class, and the place of the first
abbrev pub example_text : (count : ℕ) → (starts : List ℕ) → (first : ℕ) → List ℕ
example_text count starts first = decimal count ++ (32 ∷ (place_text starts first ++ 10 ∷ []))

-- the line of a class with these packets, where there are any
abbrev pub class_line : (word part starts numbers : List ℕ) → List ℕ
class_line word part starts [] = []
class_line word part starts (first ∷ others) = class_begin word part ++ example_text (length (first ∷ others)) starts first

-- ---- what is in a class

-- the packets without a partner
abbrev pub numbers_alone : List Row → List ℕ
numbers_alone rows = flat_map (λ (row : Row). number_if (is_none row.1) row.0) rows

-- the field in which a packet differs first from its partner, where it has one, with the number of that
abbrev pub changes_of_row : Findings → ℕ → Option ℕ → List (Option Field × ℕ)
changes_of_row found wanted None = []
changes_of_row found wanted (Some got) =
    let change = change_of found.ignored.now (frame_at found.wanted.now wanted) (frame_at found.got.now got) in (change.field, got) ∷ []

abbrev pub changes_of : Findings → List Row → List (Option Field × ℕ)
changes_of found rows = flat_map (λ (row : Row). changes_of_row found row.0 row.1) rows

-- the word of the class of changes in a field, or outside of all
abbrev pub change_class : Option Field → List ℕ
change_class None = codes "byte"
change_class (Some field) = field_name field

-- the packets that changed in this field, or outside of all, by those that came
abbrev pub changed_in : Option Field → List (Option Field × ℕ) → List ℕ
changed_in field changes =
    flat_map (λ (change : Option Field × ℕ). number_if (bytes_eq (change_class change.0) (change_class field)) change.1) changes

-- a packet that ended so was dropped with this error
abbrev pub has_error : DropError → PacketEnd → Bool
has_error error (ends.Tx interface) = false
has_error error (ends.Dropped node other) = error_number other == error_number error

-- one of the packets that were dropped was dropped with this error
abbrev pub is_dropped_with : Findings → DropError → ℕ → Bool
is_dropped_with found error dropped =
    option_map_or (λ (line : PacketLine). has_error error line.end) (slice_get found.report.now.packets (number_at found.dropped.now dropped)) false

-- a packet has such a partner
abbrev pub is_there_with : Findings → DropError → Option ℕ → Bool
is_there_with found error None = false
is_there_with found error (Some dropped) = is_dropped_with found error dropped

-- the packets that came though they had to be dropped with this error
abbrev pub there_with : Findings → List Row → DropError → List ℕ
there_with found rows error = flat_map (λ (row : Row). number_if (is_there_with found error row.1) row.0) rows

-- ---- all classes

-- the class of the packets that changed in this field, or outside of all
abbrev pub changed_class : List (Option Field × ℕ) → (starts : List ℕ) → Option Field → List ℕ
changed_class changes starts field = class_line (codes "changed") (change_class field) starts (changed_in field changes)

-- those of all fields, and of changes outside of all
abbrev pub changed_classes : List (Option Field × ℕ) → (starts : List ℕ) → List ℕ
changed_classes changes starts = flat_map (λ (field : Field). changed_class changes starts (Some field)) all_fields ++ changed_class changes starts None

-- the class of the packets that came though they had to be dropped with this error
abbrev pub there_class : Findings → List Row → DropError → List ℕ
there_class found rows error = class_line (codes "dropped-but-there") (error_word error) found.starts.now (there_with found rows error)

-- the classes of the packets that had to come, the example of those that are missing by its place in the run's savefile
abbrev pub wanted_classes : Findings → List Row → List ℕ
wanted_classes found rows = class_line (codes "missing") [] [] (numbers_alone rows) ++ changed_classes (changes_of found rows) found.starts.now

-- the classes of the packets that came
abbrev pub got_classes : Findings → List Row → List ℕ
got_classes found rows =
    class_line (codes "extra") [] found.starts.now (numbers_alone rows) ++ flat_map (λ (error : DropError). there_class found rows error) all_errors

-- a line for each class of packets that had to come and are not the same, and then for each of those that came and are not
pub record AreClasses (found : Findings) (text : List ℕ) : Type 0 where
  pub wanted : List Row
  pub got : List Row
  pub wanted_are : AreInOrder found.diff.now.changed.items found.diff.now.missing.items wanted
  pub got_are : AreInOrder (map turned found.diff.now.there.items) found.diff.now.extra.items got
  pub is : text ≡ wanted_classes found wanted ++ got_classes found got
