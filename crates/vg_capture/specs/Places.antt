-- Where the records of captured packets stand in bytes.
use Rattle.std.specs.Prelude.{ℕ, ◌+◌, ◌≤◌, ◌++◌, Bool, List, length, map, take, drop, All, if◌then◌else◌}
use Rattle.byteorder.specs.Endian.{big_number, little_number, little_bytes}
use Rattle.vg_capture.specs.declared.captures.Captured.{Captured}
use Rattle.vg_capture.specs.declared.captures.Marks.{Marks}
use Rattle.vg_capture.specs.declared.captures.Place.{Place}

-- the 32-bit number at a place, big-endian or little-endian
abbrev pub number_at : Bool → List ℕ → ℕ → ℕ
number_at big bytes place = if big then big_number 4 (drop place bytes) else little_number 4 (drop place bytes)

-- the packet whose record stands at a place
abbrev pub captured_at : Bool → List ℕ → Place → Captured
captured_at big bytes place = record {
  seconds = number_at big bytes place.at;
  fraction = number_at big bytes (place.at + 4);
  original = number_at big bytes (place.at + 12);
  bytes = take place.len (drop (place.at + 16) bytes);
}

-- the packets whose records stand at these places
abbrev pub captured_in : Bool → List ℕ → List Place → List Captured
captured_in big bytes places = map (captured_at big bytes) places

-- there are no more than may be, and each record is within the bytes
pub record ArePlaces (bytes : List ℕ) (places : List Place) : Type 0 where
  pub few : length places ≤ 65536
  pub within : All (λ (place : Place). place.at + 16 + place.len ≤ length bytes) places

-- a packet's marks
abbrev pub marks_of : Captured → Marks
marks_of captured = record { seconds = captured.seconds; fraction = captured.fraction; original = captured.original }

-- the packet with these marks and bytes
abbrev pub captured_with : Marks → List ℕ → Captured
captured_with marks bytes = record { seconds = marks.seconds; fraction = marks.fraction; original = marks.original; bytes = bytes }

-- a record's header: seconds, fraction, captured length, original length
abbrev pub head_of : Marks → ℕ → List ℕ
head_of marks len = little_bytes 4 marks.seconds ++ little_bytes 4 marks.fraction ++ little_bytes 4 len ++ little_bytes 4 marks.original
