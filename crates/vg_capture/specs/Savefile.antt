-- Savefiles (pcap-savefile(5)): what a file holds, or the first check that it fails, and how a file is written.
use Rattle.std.specs.Prelude.{◌≡◌, ℕ, zero, suc, ◌+◌, ◌<◌, ◌^◌, Bool, true, false, not, ◌&&◌, ◌==◌, nat_lt, List, [], ◌∷◌, ◌++◌, length, take, drop, map, flat_map, slice_get, Option, Some, None, option_map, unwrap_or, Result, Ok, Err, if◌then◌else◌, All}
use Rattle.byteorder.specs.Endian.{big_number, little_number, little_bytes}
use Rattle.vg_capture.specs.declared.captures.Capture.{Capture}
use Rattle.vg_capture.specs.declared.captures.Captured.{Captured}
use Rattle.vg_capture.specs.declared.captures.Sent.{Sent}
use Rattle.vg_capture.specs.declared.errors.CaptureError.{CaptureError}
use Rattle.vg_capture.specs.declared.errors.CaptureError.TheVariants as errors
use Rattle.vg_capture.specs.Places.{number_at}

-- the magic numbers: fractions of a second are microseconds, or nanoseconds
abbrev pub microseconds_magic : ℕ
microseconds_magic = 0xa1b2c3d4

abbrev pub nanoseconds_magic : ℕ
nanoseconds_magic = 0xa1b23c4d

-- the only version, and the link type of Ethernet
abbrev pub major_version : ℕ
major_version = 2

abbrev pub minor_version : ℕ
minor_version = 4

abbrev pub ethernet : ℕ
ethernet = 1

-- lengths in bytes
abbrev pub magic_len : ℕ
magic_len = 4

abbrev pub file_header_len : ℕ
file_header_len = 24

abbrev pub record_header_len : ℕ
record_header_len = 16

-- the largest file, the longest captured length of a record and the most records that are accepted
abbrev pub largest_file : ℕ
largest_file = 16777216

abbrev pub longest_record : ℕ
longest_record = 262144

abbrev pub most_records : ℕ
most_records = 65536

-- what follows a value; an error stays
infixl 10 ◌>>=◌
abbrev pub ◌>>=◌ : {X Y : Type 0} → Result X CaptureError → (X → Result Y CaptureError) → Result Y CaptureError
(Ok x) >>= f = f x
(Err error) >>= f = Err error

-- a check: the error where the test holds
abbrev pub refused_if : Bool → CaptureError → Result (Unit {0}) CaptureError
refused_if true error = Err error
refused_if false error = Ok tt

-- a byte order: the number in the first n bytes of a list
abbrev pub Order : Type 0
Order = ℕ → List ℕ → ℕ

-- the 16-bit number at a place
abbrev pub number16 : Order → List ℕ → ℕ → ℕ
number16 order bytes place = order 2 (drop place bytes)

-- the 32-bit number at a place
abbrev pub number32 : Order → List ℕ → ℕ → ℕ
number32 order bytes place = order 4 (drop place bytes)

-- this is the byte order in which numbers begin with their highest byte, or else with their lowest
abbrev pub IsOrder : Bool → Order → Type 0
IsOrder big order = (bytes : List ℕ) (place : ℕ) → number_at big bytes place ≡ number32 order bytes place

-- whether fractions are nanoseconds, where the number is a magic number
abbrev pub unit_of : ℕ → Option Bool
unit_of magic =
    if magic == microseconds_magic then Some false
    else if magic == nanoseconds_magic then Some true
    else None

-- the packet of the first record
abbrev pub captured_of : Order → List ℕ → Captured
captured_of order bytes = record {
  seconds = number32 order bytes 0;
  fraction = number32 order bytes 4;
  original = number32 order bytes 12;
  bytes = take (number32 order bytes 8) (drop record_header_len bytes);
}

-- the packets of the records from a place of the file to its end, where so many more are taken
abbrev pub records_at : Order → (left place : ℕ) → List ℕ → Result (List Captured) CaptureError
records_at order left place [] = Ok []
records_at order zero place (byte ∷ rest) = Err (errors.TooManyPackets place)
records_at order (suc left) place (byte ∷ rest) =
    let bytes = byte ∷ rest in
    let len = number32 order bytes 8 in
    let body = drop record_header_len bytes in
    do
      _ ← refused_if (nat_lt (length bytes) record_header_len) (errors.Truncated place)
      _ ← refused_if (nat_lt longest_record len) (errors.RecordTooLong place)
      _ ← refused_if (nat_lt (length body) len) (errors.Truncated (place + record_header_len))
      others ← records_at order left (place + record_header_len + len) (drop len body)
      Ok (captured_of order bytes ∷ others)

-- the packets of all records behind the file's header
abbrev pub records_of : Order → List ℕ → Result (List Captured) CaptureError
records_of order bytes = records_at order most_records file_header_len bytes

-- the capture of a file in this byte order and unit of time, or the first check that fails
abbrev pub capture_in : Order → Bool → List ℕ → Result Capture CaptureError
capture_in order nanos bytes = do
  _ ← refused_if (nat_lt (length bytes) file_header_len) (errors.Truncated 0)
  _ ← refused_if (not (number16 order bytes 4 == major_version && number16 order bytes 6 == minor_version))
      (errors.Version (number16 order bytes 4) (number16 order bytes 6))
  _ ← refused_if (not (number32 order bytes 20 == ethernet)) (errors.LinkType (number32 order bytes 20))
  packets ← records_of order (drop file_header_len bytes)
  Ok (record { nanos = nanos; snaplen = number32 order bytes 16; packets = packets })

-- the byte order is the one in which the first four bytes are a magic number
abbrev pub capture_by : List ℕ → (little big : Option Bool) → Result Capture CaptureError
capture_by bytes (Some nanos) big = capture_in little_number nanos bytes
capture_by bytes None (Some nanos) = capture_in big_number nanos bytes
capture_by bytes None None = Err errors.NotPcap

-- the capture that a savefile holds, or the first check that fails
abbrev pub capture_of : List ℕ → Result Capture CaptureError
capture_of bytes = do
  _ ← refused_if (nat_lt largest_file (length bytes)) errors.TooLarge
  _ ← refused_if (nat_lt (length bytes) magic_len) (errors.Truncated 0)
  capture_by bytes (unit_of (little_number magic_len bytes)) (unit_of (big_number magic_len bytes))

-- what is answered is this, but for want of memory
abbrev pub IsUnlessMemory : {X : Type 0} → Result X CaptureError → Result X CaptureError → Type 0
IsUnlessMemory this (Err errors.Memory) = Unit {0}
IsUnlessMemory this answer = this ≡ answer

-- what is answered of a file, but for want of memory
abbrev pub AnswersRead : List ℕ → Result Capture CaptureError → Type 0
AnswersRead bytes answer = IsUnlessMemory (capture_of bytes) answer

-- a savefile is written little-endian
abbrev pub magic_of : Bool → ℕ
magic_of nanos = if nanos then nanoseconds_magic else microseconds_magic

-- the file's header: magic, version, time zone, accuracy, snaplen, link type
abbrev pub file_header : Capture → List ℕ
file_header capture =
    little_bytes 4 (magic_of capture.nanos) ++ little_bytes 2 major_version ++ little_bytes 2 minor_version
    ++ little_bytes 4 0 ++ little_bytes 4 0 ++ little_bytes 4 capture.snaplen ++ little_bytes 4 ethernet

-- the record of a captured packet with other bytes: seconds, fraction, captured length, original length, bytes
abbrev pub record_of : Captured → List ℕ → List ℕ
record_of captured bytes =
    little_bytes 4 captured.seconds ++ little_bytes 4 captured.fraction ++ little_bytes 4 (length bytes)
    ++ little_bytes 4 captured.original ++ bytes

-- the record of a packet that was sent: its number among the captured ones, and its bytes
abbrev pub sent_in : List Captured → ℕ × List ℕ → List ℕ
sent_in packets sent = unwrap_or (option_map (λ captured. record_of captured sent.1) (slice_get packets sent.0)) []

-- the savefile of the packets sent of a capture
abbrev pub savefile : Capture → List (ℕ × List ℕ) → List ℕ
savefile capture sent = file_header capture ++ flat_map (sent_in capture.packets) sent

-- the packets sent, without where they lie in memory
abbrev pub pairs : List Sent → List (ℕ × List ℕ)
pairs sent = map (λ s. (s.number, s.bytes)) sent

-- numbers are below the number of packets, and lengths below 2 ^ 32
abbrev pub AreWithin : ℕ → List Sent → Type 0
AreWithin packets sent = All (λ s. (s.number < packets) × (length s.bytes < 2 ^ 32)) sent
