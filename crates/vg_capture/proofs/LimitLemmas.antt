-- For `read_is_a_capture`: the limits of what is read.
use Rattle.std.proofs.Common.{◌≡◌, ◌≢◌, ℕ, zero, suc, ◌+◌, ◌<◌, ◌≤◌, ◌^◌, Bool, true, false, List, [], ◌∷◌, length, take, drop, get_or, refl, sym, ap, subst, ◌∙◌, arith, inl, inr}
use Rattle.std.specs.Prelude.{Option, Some, None, Result, Ok, Err, IfOk, nat_lt, not, ◌==◌, ◌&&◌, All, slice_index}
use Rattle.std.proofs.lemmas.Bool.{lt-ltb, cases_lt}
use Rattle.std.proofs.lemmas.List.{get_or-drop, take_all, length-take-le}
use Rattle.std.proofs.lemmas.Result.{IfOk-at_ok}
use Rattle.byteorder.specs.Endian.{big_number, little_number}
use Rattle.byteorder.specs.Numbers.{big_from-lt, little_from-lt}
use Rattle.vg_capture.specs.declared.captures.Capture.{Capture}
use Rattle.vg_capture.specs.declared.captures.Captured.{Captured}
use Rattle.vg_capture.specs.declared.errors.CaptureError.{CaptureError}
use Rattle.vg_capture.specs.declared.errors.CaptureError.TheVariants as errors
use Rattle.vg_capture.specs.Savefile.{◌>>=◌, refused_if, AnswersRead, IsUnlessMemory, Order, number16, number32, captured_of, records_at, records_of, capture_in, capture_by, capture_of, unit_of}
use Rattle.vg_capture.specs.Savefile.{most_records, largest_file, longest_record, magic_len, file_header_len, record_header_len, major_version, minor_version, ethernet}
use Rattle.vg_capture.specs.RoundTrip.{IsCaptured, IsCapture}
use Rattle.vg_capture.proofs.RecordLemmas.{stopped}

-- what a file that isn't too large holds
abbrev within : List ℕ → Unit {0} → Result Capture CaptureError
within bytes _ =
    refused_if (nat_lt (length bytes) magic_len) (errors.Truncated 0)
    >>= λ _. capture_by bytes (unit_of (little_number magic_len bytes)) (unit_of (big_number magic_len bytes))

-- the first bytes of a file decide, one more than it may have
pub capture_of-take : (bytes : List ℕ) (limit : ℕ) → largest_file < limit → capture_of (take limit bytes) ≡ capture_of bytes
capture_of-take bytes limit h = elim (cases_lt (length bytes) limit) [
  | inl short ↦ ap capture_of (take_all limit bytes (omega arith))
  | inr long ↦
      let cut : length (take limit bytes) ≡ limit = length-take-le limit bytes (omega arith) in
      stopped (nat_lt largest_file (length (take limit bytes))) errors.TooLarge (within (take limit bytes)) (lt-ltb largest_file (length (take limit bytes)) (omega arith))
      ∙ sym (stopped (nat_lt largest_file (length bytes)) errors.TooLarge (within bytes) (lt-ltb largest_file (length bytes) (omega arith)))
]

-- so what is answered of the first bytes is answered of the file
pub AnswersRead-take : (bytes : List ℕ) (limit : ℕ) (answer : Result Capture CaptureError) → largest_file < limit → AnswersRead (take limit bytes) answer → AnswersRead bytes answer
AnswersRead-take bytes limit answer h answers = subst (λ r. IsUnlessMemory r answer) (capture_of-take bytes limit h) answers

-- an error that is answered is the first check that fails, unless memory ran out
pub refused_exactly : (bytes : List ℕ) (error : CaptureError) → error ≢ errors.Memory → AnswersRead bytes (Err error) → capture_of bytes ≡ Err error
refused_exactly bytes errors.Memory h answers = absurd (h refl)
refused_exactly bytes errors.TooLarge h answers = answers
refused_exactly bytes errors.NotPcap h answers = answers
refused_exactly bytes (errors.Version major minor) h answers = answers
refused_exactly bytes (errors.LinkType link) h answers = answers
refused_exactly bytes (errors.Truncated offset) h answers = answers
refused_exactly bytes (errors.RecordTooLong offset) h answers = answers
refused_exactly bytes (errors.TooManyPackets offset) h answers = answers

-- what holds behind three checks, and behind a step
behind_checks : {X : Type 0} (P : X → Type 0) (a b c : Bool) (d e f : CaptureError) (r : Result X CaptureError) → IfOk r P
    → IfOk (refused_if a d >>= λ _. refused_if b e >>= λ _. refused_if c f >>= λ _. r) P
behind_checks P true b c d e f r h = tt
behind_checks P false true c d e f r h = tt
behind_checks P false false true d e f r h = tt
behind_checks P false false false d e f r h = h

behind_step : {X Y : Type 0} (P : X → Type 0) (Q : Y → Type 0) (r : Result X CaptureError) (f : X → Result Y CaptureError) → IfOk r P → ((x : X) → P x → IfOk (f x) Q) → IfOk (r >>= f) Q
behind_step P Q (Ok x) f h k = k x h
behind_step P Q (Err e) f h k = tt

-- a byte order in which numbers of n bytes are below 256 ^ n
abbrev pub KeepsWidth : Order → Type 0
KeepsWidth order = (n : ℕ) (xs : List ℕ) → ((i : ℕ) → slice_index xs i < 256) → order n xs < 256 ^ n

-- bytes behind a place are bytes
bytes_behind : (place : ℕ) (bytes : List ℕ) → ((i : ℕ) → slice_index bytes i < 256) → (i : ℕ) → slice_index (drop place bytes) i < 256
bytes_behind place bytes all i = subst (λ b. b < 256) (sym (get_or-drop place bytes i 0)) (all (place + i))

-- a number of bytes has 32 bits
number32_fits : (order : Order) (bytes : List ℕ) (place : ℕ) → KeepsWidth order → ((i : ℕ) → slice_index bytes i < 256) → number32 order bytes place < 2 ^ 32
number32_fits order bytes place width all = width 4 (drop place bytes) (bytes_behind place bytes all)

-- the packet of a record has numbers of 32 bits
captured_fits : (order : Order) (bytes : List ℕ) → KeepsWidth order → ((i : ℕ) → slice_index bytes i < 256) → IsCaptured (captured_of order bytes)
captured_fits order bytes width all = record {
  seconds = number32_fits order bytes 0 width all;
  fraction = number32_fits order bytes 4 width all;
  original = number32_fits order bytes 12 width all;
}

-- packets that are read: so many at most, with numbers of 32 bits
pub record AreCaptured (most : ℕ) (packets : List Captured) : Type 0 where
  pub few : length packets ≤ most
  pub fit : All IsCaptured packets

-- no packets, and one more in front
captured_none : (most : ℕ) → AreCaptured most []
captured_none most = record { few = omega arith; fit = λ k d h. absurd (omega arith) }

captured_more : (most : ℕ) (first : Captured) (others : List Captured) → IsCaptured first → AreCaptured most others → AreCaptured (suc most) (first ∷ others)
captured_more most first others one more = record { few = omega arith; fit = fit }
  where
    fit : (k : ℕ) (d : Captured) → k < length (first ∷ others) → IsCaptured (get_or (first ∷ others) k d)
    fit zero d h = one
    fit (suc k) d h = more.fit k d (omega arith)

-- records that are read
records_fit : (order : Order) (left place : ℕ) (bytes : List ℕ) → KeepsWidth order → ((i : ℕ) → slice_index bytes i < 256) → IfOk (records_at order left place bytes) (AreCaptured left)
records_fit order zero place [] width all = captured_none zero
records_fit order (suc left) place [] width all = captured_none (suc left)
records_fit order zero place (byte ∷ rest) width all = tt
records_fit order (suc left) place (byte ∷ rest) width all =
    let bytes : List ℕ = byte ∷ rest in
    let len : ℕ = number32 order bytes 8 in
    let body : List ℕ = drop record_header_len bytes in
    let behind : Result (List Captured) CaptureError = records_at order left (place + record_header_len + len) (drop len body) in
    let next : List Captured → Result (List Captured) CaptureError = λ others. Ok (captured_of order bytes ∷ others) in
    behind_checks (AreCaptured (suc left)) (nat_lt (length bytes) record_header_len) (nat_lt longest_record len) (nat_lt (length body) len)
    (errors.Truncated place) (errors.RecordTooLong place) (errors.Truncated (place + record_header_len)) (behind >>= next)
    (behind_step (AreCaptured left) (AreCaptured (suc left)) behind next
    (records_fit order left (place + record_header_len + len) (drop len body) width (bytes_behind len body (bytes_behind record_header_len bytes all)))
    (λ others more. captured_more left (captured_of order bytes) others (captured_fits order bytes width all) more))

-- a capture that is read in a byte order
capture_in_fits : (order : Order) (nanos : Bool) (bytes : List ℕ) → KeepsWidth order → ((i : ℕ) → slice_index bytes i < 256) → IfOk (capture_in order nanos bytes) IsCapture
capture_in_fits order nanos bytes width all =
    let whole : List Captured → Result Capture CaptureError = λ packets. Ok (record { nanos = nanos; snaplen = number32 order bytes 16; packets = packets }) in
    let packets : Result (List Captured) CaptureError = records_of order (drop file_header_len bytes) in
    behind_checks IsCapture (nat_lt (length bytes) file_header_len)
    (not (number16 order bytes 4 == major_version && number16 order bytes 6 == minor_version)) (not (number32 order bytes 20 == ethernet))
    (errors.Truncated 0) (errors.Version (number16 order bytes 4) (number16 order bytes 6)) (errors.LinkType (number32 order bytes 20)) (packets >>= whole)
    (behind_step (AreCaptured most_records) IsCapture packets whole
    (records_fit order most_records file_header_len (drop file_header_len bytes) width (bytes_behind file_header_len bytes all))
    (λ packets h. record { snaplen = number32_fits order bytes 16 width all; packets = h.fit; few = h.few }))

capture_by_fits : (bytes : List ℕ) (little big : Option Bool) → ((i : ℕ) → slice_index bytes i < 256) → IfOk (capture_by bytes little big) IsCapture
capture_by_fits bytes (Some nanos) big all = capture_in_fits little_number nanos bytes (λ n xs h. little_from-lt 0 n xs h) all
capture_by_fits bytes None (Some nanos) all = capture_in_fits big_number nanos bytes (λ n xs h. big_from-lt 0 n xs h) all
capture_by_fits bytes None None all = tt

-- each place of a list of bytes has a byte, and those past its end 0
bytes_at : (bytes : List ℕ) → All (λ b. b < 256) bytes → (i : ℕ) → slice_index bytes i < 256
bytes_at [] all i = omega arith
bytes_at (byte ∷ rest) all zero = all 0 0 (omega arith)
bytes_at (byte ∷ rest) all (suc i) = bytes_at rest (λ k d h. all (suc k) d (omega arith)) i

-- what is read of bytes is a capture
pub capture_fits : (bytes : List ℕ) (capture : Capture) → All (λ b. b < 256) bytes → capture_of bytes ≡ Ok capture → IsCapture capture
capture_fits bytes capture all h =
    IfOk-at_ok IsCapture h
    (behind_checks IsCapture (nat_lt largest_file (length bytes)) (nat_lt (length bytes) magic_len) false errors.TooLarge (errors.Truncated 0) errors.TooLarge
    (capture_by bytes (unit_of (little_number magic_len bytes)) (unit_of (big_number magic_len bytes)))
    (capture_by_fits bytes (unit_of (little_number magic_len bytes)) (unit_of (big_number magic_len bytes)) (bytes_at bytes all)))
