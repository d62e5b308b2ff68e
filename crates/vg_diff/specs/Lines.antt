-- The lines that are printed.
use Rattle.std.specs.Prelude.{◌≡◌, ℕ, suc, ◌+◌, ◌-◌, ◌==◌, nat_le, List, [], ◌∷◌, ◌++◌, length, map, flat_map, filter, slice_get, codes, decimal, Option, Some, None, if◌then◌else◌}
use Rattle.std.specs.Borrow.{Bor}
use Rattle.std.specs.Option.{option_map_or}
use Rattle.std.specs.List.Sorted.{IsPermutation, IsNonDecreasingBy}
use Rattle.vg_match.specs.declared.fields.Field.{Field}
use Rattle.vg_match.specs.declared.frames.Layout.{Layout}
use Rattle.vg_match.specs.Fields.{field_name, field_at, span_of, span}
use Rattle.vg_match.specs.Frames.{layout_of}
use Rattle.vg_match.specs.Keys.{compared, cut}
use Rattle.vg_model.specs.Errors.{error_word}
use Rattle.vg_report.specs.declared.reports.PacketEnd.{PacketEnd}
use Rattle.vg_report.specs.declared.reports.PacketEnd.TheVariants as ends
use Rattle.vg_report.specs.declared.reports.PacketLine.{PacketLine}
use Rattle.vg_report.specs.declared.reports.Report.{Report}
use Rattle.vg_diff.specs.declared.lines.Change.{Change}
use Rattle.vg_diff.specs.declared.lines.Findings.{Findings}
use Rattle.vg_diff.specs.Texts.{hex_text, line_begin}

-- an element, or 0 behind the last
abbrev pub number_at : List ℕ → ℕ → ℕ
number_at numbers at = option_map_or (λ number. number) (slice_get numbers at) 0

-- a frame, or none behind the last
abbrev pub frame_at : List (Bor (List ℕ)) → ℕ → List ℕ
frame_at frames at = option_map_or (λ (frame : Bor (List ℕ)). frame.now) (slice_get frames at) []

-- ---- the place of a packet that came

-- the savefile that a packet of this number stands in, by the numbers of the first packets of all savefiles but the first
abbrev pub file_of : List ℕ → ℕ → ℕ
file_of starts number = length (filter (λ start. nat_le start number) starts)

-- the number of the first packet of a savefile
abbrev pub first_of : List ℕ → ℕ → ℕ
first_of starts file = if file == 0 then 0 else number_at starts (file - 1)

-- the savefile, from 0, and the frame's number there, from 1
abbrev pub place_text : List ℕ → ℕ → List ℕ
place_text starts number = decimal (file_of starts number) ++ (58 ∷ decimal ((number - first_of starts (file_of starts number)) + 1))

-- ---- what differs in a packet that changed

-- how many bytes two texts have in common at the front
abbrev pub common_front : List ℕ → List ℕ → ℕ
common_front [] others = 0
common_front (byte ∷ bytes) [] = 0
common_front (byte ∷ bytes) (other ∷ others) = if byte == other then suc (common_front bytes others) else 0

-- the field that a place is in, and where that stands; else the place itself
abbrev pub change_in : Layout → ℕ → Option Field → Change
change_in layout at None = record { field = None; span = span at 1 }
change_in layout at (Some field) = record { field = Some field; span = option_map_or (λ found. found) (span_of field layout) (span at 1) }

abbrev pub change_at : Layout → ℕ → Change
change_at layout at = change_in layout at (field_at layout at)

-- where a frame that came differs first from the one that was wanted, but for the fields that are ignored
unfoldable pub change_of : List Field → (wanted got : List ℕ) → Change
change_of ignored wanted got = change_at (layout_of wanted) (common_front (compared ignored wanted) (compared ignored got))

-- a field's name, or the number of a byte
abbrev pub change_name : Option Field → ℕ → List ℕ
change_name None at = decimal at
change_name (Some field) at = field_name field

-- where it differs, what was wanted there, and what came
abbrev pub change_text : Change → (wanted got : List ℕ) → List ℕ
change_text change wanted got =
    change_name change.field change.span.at ++ (32 ∷ (hex_text (cut wanted change.span) ++ (32 ∷ hex_text (cut got change.span))))

-- ---- a line for a packet

-- names, each behind a space
abbrev pub names_text : List (List ℕ) → List ℕ
names_text names = flat_map (λ name. 32 ∷ name) names

-- the nodes that a packet visited, where the report has its trace
abbrev pub trace_text : Report → ℕ → List ℕ
trace_text report number = option_map_or names_text (slice_get report.traces number) []

-- a packet that had to come didn't: its number in the run, and the nodes that it visited
abbrev pub missing_line : Findings → ℕ → List ℕ
missing_line found wanted =
    let number = number_at found.sent.now wanted in codes "missing " ++ (decimal number ++ (trace_text found.report.now number ++ 10 ∷ []))

-- what differs in a packet that changed
unfoldable pub difference_text : Findings → (wanted got : ℕ) → List ℕ
difference_text found wanted got =
    let first = frame_at found.wanted.now wanted in
    let second = frame_at found.got.now got in change_text (change_of found.ignored.now first second) first second

-- a packet changed: its number in the run, and what differs
abbrev pub changed_line : Findings → (wanted got : ℕ) → List ℕ
changed_line found wanted got = line_begin (codes "changed") (number_at found.sent.now wanted) ++ (difference_text found wanted got ++ 10 ∷ [])

-- a packet came that nobody wanted: its number among those that came, and its place
abbrev pub extra_line : Findings → ℕ → List ℕ
extra_line found got = codes "extra " ++ (decimal got ++ (32 ∷ (place_text found.starts.now got ++ 10 ∷ [])))

-- the node that dropped a packet, and the error
abbrev pub end_text : PacketEnd → List ℕ
end_text (ends.Tx interface) = []
end_text (ends.Dropped node error) = node ++ (32 ∷ (error_word error ++ 32 ∷ []))

abbrev pub drop_text : Option PacketLine → List ℕ
drop_text line = option_map_or (λ (l : PacketLine). end_text l.end) line []

-- a packet came that had to be dropped: its number in the run, the node and the error, and the place of the one that came
abbrev pub there_line : Findings → (dropped got : ℕ) → List ℕ
there_line found dropped got =
    let number = number_at found.dropped.now dropped in
    line_begin (codes "dropped-but-there") number ++ (drop_text (slice_get found.report.now.packets number) ++ (place_text found.starts.now got ++ 10 ∷ []))

-- ---- all lines

-- a packet of one side: its number, and that of its partner, where it has one
abbrev pub Row : Type 0
Row = ℕ × Option ℕ

-- the line of a packet that had to come
abbrev pub wanted_line : Findings → ℕ → Option ℕ → List ℕ
wanted_line found wanted None = missing_line found wanted
wanted_line found wanted (Some got) = changed_line found wanted got

-- the line of a packet that came
abbrev pub got_line : Findings → ℕ → Option ℕ → List ℕ
got_line found got None = extra_line found got
got_line found got (Some dropped) = there_line found dropped got

abbrev pub row_of_pair : ℕ × ℕ → Row
row_of_pair pair = (pair.0, Some pair.1)

abbrev pub row_alone : ℕ → Row
row_alone number = (number, None)

abbrev pub turned : ℕ × ℕ → ℕ × ℕ
turned pair = (pair.1, pair.0)

-- the packets of one side, by their numbers: those of pairs with their partners, and those alone; each once
pub record AreInOrder (pairs : List (ℕ × ℕ)) (alone : List ℕ) (rows : List Row) : Type 0 where
  pub each : IsPermutation (map row_of_pair pairs ++ map row_alone alone) rows
  pub rise : IsNonDecreasingBy (λ (row : Row). row.0) rows

-- a line for each packet that had to come and is not the same, in their order, and then for each that came and is not
pub record AreLines (found : Findings) (text : List ℕ) : Type 0 where
  pub wanted : List Row
  pub got : List Row
  pub wanted_are : AreInOrder found.diff.now.changed.items found.diff.now.missing.items wanted
  pub got_are : AreInOrder (map turned found.diff.now.there.items) found.diff.now.extra.items got
  pub is : text ≡ flat_map (λ (row : Row). wanted_line found row.0 row.1) wanted ++ flat_map (λ (row : Row). got_line found row.0 row.1) got
