-- The record of a savefile that a place is in, and how it differs from the one that is wanted.
use Rattle.std.specs.Prelude.{◌≡◌, ◌+◌, ◌-◌, ◌<◌, ◌≤◌, ◌⊎◌, ◌&&◌, ◌==◌, ℕ, Bool, nat_lt, List, length, take, drop, slice_get, sum_by, Option, Some, None, MatchOption, if◌then◌else◌}
use Rattle.std.specs.List.{starts_with}
use Rattle.byteorder.specs.Endian.{little_number}
use Rattle.vg_capture.specs.declared.captures.Capture.{Capture}
use Rattle.vg_capture.specs.Savefile.{savefile, file_header_len, record_header_len}
use Rattle.vg_match.specs.Fields.{field_at}
use Rattle.vg_match.specs.Frames.{layout_of}
use Rattle.vg_differs.specs.declared.records.Fault.{Fault}
use Rattle.vg_differs.specs.declared.records.Fault.TheVariants as faults
use Rattle.vg_differs.specs.declared.records.Part.{Part}
use Rattle.vg_differs.specs.declared.records.Part.TheVariants as parts
use Rattle.vg_differs.specs.declared.records.Spot.{Spot}
use Rattle.vg_differs.specs.declared.saved.OtherFile.{OtherFile}
use Rattle.vg_differs.specs.First.{IsFirst}

-- the part of a record that its byte of this number is in: a number of its header, or a byte of its packet, which has these bytes
abbrev pub part_of : List ℕ → ℕ → Part
part_of bytes at =
    if nat_lt at 4 then parts.Seconds
    else if nat_lt at 8 then parts.Fraction
    else if nat_lt at 12 then parts.CapturedLength
    else if nat_lt at 16 then parts.OriginalLength
    else parts.Packet (at - 16) (field_at (layout_of bytes) (at - 16))

-- how many bytes the record of a packet with these bytes has
abbrev pub record_len : List ℕ → ℕ
record_len bytes = record_header_len + length bytes

-- how many bytes the record of a packet has that may be there
abbrev pub next_len : Option (ℕ × List ℕ) → ℕ
next_len None = 0
next_len (Some sent) = record_len sent.1

-- where the savefile of these packets ends
abbrev pub end_of : List (ℕ × List ℕ) → ℕ
end_of sent = file_header_len + sum_by (λ (s : ℕ × List ℕ). record_len s.1) sent

-- a place is in this record of the savefile of packets sent
pub record IsSpot (sent : List (ℕ × List ℕ)) (place : ℕ) (spot : Spot) : Type 0 where
  pub bytes : List ℕ
  pub is : slice_get sent spot.record ≡ Some (spot.packet, bytes)
  pub start : spot.start ≡ end_of (take spot.record sent)
  pub len : spot.len ≡ record_len bytes
  pub next : spot.next ≡ next_len (slice_get sent (spot.record + 1))
  pub within : (spot.start ≤ place) × (place < spot.start + spot.len)
  pub part : spot.part ≡ part_of bytes (place - spot.start)

-- a place is in no record of it: in its header, or behind all
abbrev pub IsOutside : List (ℕ × List ℕ) → ℕ → Type 0
IsOutside sent place = (place < file_header_len) ⊎ (end_of sent ≤ place)

-- whether the one list begins with the other
abbrev pub begins_with : (bytes front : List ℕ) → Bool
begins_with bytes front = starts_with (λ a b. a == b) bytes front

-- how many bytes the record has, by its own header, that these bytes begin with; a header's where that isn't there
abbrev pub own_len : List ℕ → ℕ
own_len bytes = if nat_lt (length bytes) 12 then record_header_len else record_header_len + little_number 4 (drop 8 bytes)

-- what is wrong where these bytes stand and this record is wanted, and behind it the next, if there is one: nothing or the next stands there, so it is
-- missing; the next and then it, so they are exchanged; another and then it, so that one is too many; else a byte is another
abbrev pub fault_by : (there due next : List ℕ) → Fault
fault_by there due next =
    if length there == 0 then faults.Missing
    else if nat_lt 0 (length next) && begins_with there next
    then (if begins_with (drop (length next) there) due then faults.Exchanged else faults.Missing)
    else if begins_with (drop (own_len there) there) due then faults.TooMany
    else faults.Byte

-- the fault of a file at a record of the one that is wanted
abbrev pub fault_at : (file wanted : List ℕ) → Option Spot → Fault
fault_at file wanted None = faults.Byte
fault_at file wanted (Some spot) =
    fault_by (drop spot.start file) (take spot.len (drop spot.start wanted)) (take spot.next (drop (spot.start + spot.len) wanted))

-- where a file first differs from the savefile of these packets: the place, the byte that stands there and the one that is wanted, if there are such, how
-- many records are wanted, and the one that the place is in
pub record IsOtherFile (capture : Capture) (sent : List (ℕ × List ℕ)) (file : List ℕ) (other : OtherFile) : Type 0 where
  pub first : IsFirst file (savefile capture sent) other.place
  pub stands : other.stands ≡ slice_get file other.place
  pub wanted : other.wanted ≡ slice_get (savefile capture sent) other.place
  pub records : other.records ≡ length sent
  pub spot : MatchOption other.spot (IsOutside sent other.place) (IsSpot sent other.place)
  pub fault : other.fault ≡ fault_at file (savefile capture sent) other.spot
