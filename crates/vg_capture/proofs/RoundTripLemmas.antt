-- For `written_is_read_back`: reading a savefile that was written.
use Rattle.std.proofs.Common.{◌≡◌, ℕ, zero, suc, ◌+◌, ◌-◌, ◌<◌, ◌≤◌, ◌^◌, Bool, true, false, List, [], ◌∷◌, ◌++◌, length, take, drop, refl, sym, ap, subst, ◌∙◌, arith, length-append}
use Rattle.std.specs.Prelude.{Option, Some, None, option_map, unwrap_or, Ok, nat_lt, All, flat_map, slice_get, slice_index, map}
use Rattle.std.specs.List.{filter_map, cons_option}
use Rattle.std.specs.List.Sorted.{IsStrictlyIncreasing}
use Rattle.std.proofs.lemmas.List.{get_or-map, length-map}
use Rattle.std.proofs.Math.Seq.{drop-append_seam, take-append_seam}
use Rattle.std.proofs.lemmas.Bool.{le-ltb}
use Rattle.std.proofs.lemmas.Option.{slice_get_within, get_or_from_slice_get}
use Rattle.byteorder.specs.Endian.{big_number, little_number, little_bytes}
use Rattle.byteorder.specs.Numbers.{little_number-reads_back}
use Rattle.vg_capture.specs.declared.captures.Capture.{Capture}
use Rattle.vg_capture.specs.declared.captures.Captured.{Captured}
use Rattle.vg_capture.specs.declared.errors.CaptureError.TheVariants as errors
use Rattle.vg_capture.specs.Savefile.{◌>>=◌, number32, captured_of, records_at, records_of, capture_of, record_of, sent_in, file_header, savefile, unit_of, magic_of, capture_by, longest_record, largest_file, most_records, file_header_len, magic_len, ethernet}
use Rattle.vg_capture.specs.RoundTrip.{IsCaptured, IsCapture, AreSentOf, with_bytes, sent_packet, sent_capture}
use Rattle.vg_capture.proofs.RecordLemmas.{passed, with_front, record_read}

-- a number that was written is read
number_back : (x : ℕ) (rest : List ℕ) → x < 2 ^ 32 → little_number 4 (little_bytes 4 x ++ rest) ≡ x
number_back x rest h = little_number-reads_back 4 x rest h

-- a record that was written is read as the packet with the bytes sent
captured_back : (captured : Captured) (bytes rest : List ℕ) → IsCaptured captured → length bytes ≤ longest_record
    → captured_of little_number (record_of captured bytes ++ rest) ≡ with_bytes bytes captured
captured_back captured bytes rest fit short =
    let behind : List ℕ = bytes ++ rest in
    let seconds : little_number 4 (drop 0 (record_of captured bytes ++ rest)) ≡ captured.seconds =
    number_back captured.seconds (little_bytes 4 captured.fraction ++ little_bytes 4 (length bytes) ++ little_bytes 4 captured.original ++ behind) fit.seconds in
    let fraction : little_number 4 (drop 4 (record_of captured bytes ++ rest)) ≡ captured.fraction =
    number_back captured.fraction (little_bytes 4 (length bytes) ++ little_bytes 4 captured.original ++ behind) fit.fraction in
    let original : little_number 4 (drop 12 (record_of captured bytes ++ rest)) ≡ captured.original =
    number_back captured.original behind fit.original in
    let len : little_number 4 (drop 8 (record_of captured bytes ++ rest)) ≡ length bytes =
    number_back (length bytes) (little_bytes 4 captured.original ++ behind) (omega arith) in
    let body : take (little_number 4 (drop 8 (record_of captured bytes ++ rest))) behind ≡ bytes =
    ap (λ n. take n behind) len ∙ take-append_seam bytes rest in
    λ i. record { seconds = seconds i; fraction = fraction i; original = original i; bytes = body i }

-- a record that was written is read, and then what stands behind it
record_back : (captured : Captured) (bytes rest : List ℕ) (left place : ℕ) → IsCaptured captured → length bytes ≤ longest_record → 0 < left
    → records_at little_number left place (record_of captured bytes ++ rest)
    ≡ with_front (with_bytes bytes captured ∷ []) (records_at little_number (left - 1) (place + 16 + length bytes) rest)
record_back captured bytes rest left place fit short more =
    let behind : List ℕ = bytes ++ rest in
    let all : List ℕ = record_of captured bytes ++ rest in
    let len : number32 little_number all 8 ≡ length bytes =
    number_back (length bytes) (little_bytes 4 captured.original ++ behind) (omega arith) in
    let joined : length behind ≡ length bytes + length rest = length-append bytes rest in
    let header : 16 ≤ length all = omega arith in
    let fits : number32 little_number all 8 ≤ length behind = omega arith in
    record_read little_number left place all more header (omega arith) fits
    ∙ ap (λ n. with_front (captured_of little_number all ∷ []) (records_at little_number (left - 1) (place + 16 + n) (drop n behind))) len
    ∙ ap (λ r. with_front (captured_of little_number all ∷ []) (records_at little_number (left - 1) (place + 16 + length bytes) r)) (drop-append_seam bytes rest)
    ∙ ap (λ p. with_front (p ∷ []) (records_at little_number (left - 1) (place + 16 + length bytes) rest)) (captured_back captured bytes rest fit short)

-- the same of a packet that may not be there
sent_back : (packet : Option Captured) (bytes rest : List ℕ) (others : List Captured) (left place : ℕ) → ((captured : Captured) → packet ≡ Some captured → IsCaptured captured)
    → length bytes ≤ longest_record → 0 < left
    → ((left' place' : ℕ) → left - 1 ≤ left' → records_at little_number left' place' rest ≡ Ok others)
    → records_at little_number left place (unwrap_or (option_map (λ captured. record_of captured bytes) packet) [] ++ rest)
    ≡ Ok (cons_option (option_map (with_bytes bytes) packet) others)
sent_back None bytes rest others left place fit short more h = h left place (omega arith)
sent_back (Some captured) bytes rest others left place fit short more h =
    record_back captured bytes rest left place (fit captured refl) short more
    ∙ ap (with_front (with_bytes bytes captured ∷ [])) (h (left - 1) (place + 16 + length bytes) (omega arith))

-- there is no record in nothing
records_none : (left place : ℕ) → records_at little_number left place [] ≡ Ok []
records_none zero place = refl
records_none (suc left) place = refl

-- what holds of each element holds of one that is read
all_at : (P : Captured → Type 0) (xs : List Captured) (i : ℕ) (x : Captured) → All P xs → slice_get xs i ≡ Some x → P x
all_at P xs i x all e = subst P (get_or_from_slice_get xs i x x e) (all i x (slice_get_within xs i x e))

-- the records that were written are read as the packets sent
records_back : (packets : List Captured) (sent : List (ℕ × List ℕ)) (left place : ℕ) → All IsCaptured packets
    → All (λ s. length s.1 ≤ longest_record) sent → length sent ≤ left
    → records_at little_number left place (flat_map (sent_in packets) sent) ≡ Ok (filter_map (sent_packet packets) sent)
records_back packets [] left place fit short few = records_none left place
records_back packets (s ∷ ss) left place fit short few =
    sent_back (slice_get packets s.0) s.1 (flat_map (sent_in packets) ss) (filter_map (sent_packet packets) ss) left place
    (λ captured e. all_at IsCaptured packets s.0 captured fit e)
    (short 0 s (omega arith)) (omega arith)
    (λ left' place' h. records_back packets ss left' place' fit (λ i d k. short (suc i) d (omega arith)) (omega arith))

-- the magic number that was written tells the unit of time
unit_back : (nanos : Bool) (rest : List ℕ) → unit_of (little_number 4 (little_bytes 4 (magic_of nanos) ++ rest)) ≡ Some nanos
unit_back true rest = refl
unit_back false rest = refl

-- a header that was written is read
header_back : (capture : Capture) (rest : List ℕ) (others : List Captured) → capture.snaplen < 2 ^ 32 → length (file_header capture ++ rest) ≤ largest_file
    → records_of little_number rest ≡ Ok others → capture_of (file_header capture ++ rest) ≡ Ok (record capture { packets = others })
header_back capture rest others fit small h =
    let all : List ℕ = file_header capture ++ rest in
    let kept : number32 little_number all 16 ≡ capture.snaplen = number_back capture.snaplen (little_bytes 4 ethernet ++ rest) fit in
    passed (nat_lt largest_file (length all)) errors.TooLarge _ (le-ltb largest_file (length all) small)
    ∙ passed (nat_lt (length all) magic_len) (errors.Truncated 0) _ (le-ltb (length all) magic_len (omega arith))
    ∙ ap (λ unit. capture_by all unit (unit_of (big_number magic_len all))) (unit_back capture.nanos (drop 4 all))
    ∙ passed (nat_lt (length all) file_header_len) (errors.Truncated 0) _ (le-ltb (length all) file_header_len (omega arith))
    ∙ ap (λ r. r >>= λ packets. Ok (record { nanos = capture.nanos; snaplen = number32 little_number all 16; packets = packets })) h
    ∙ ap (λ n. Ok (record { nanos = capture.nanos; snaplen = n; packets = others })) kept

-- a savefile that was written is read as the packets sent
pub reads_back : (capture : Capture) (sent : List (ℕ × List ℕ)) → IsCapture capture → length sent ≤ most_records → All (λ s. length s.1 ≤ longest_record) sent
    → length (savefile capture sent) ≤ largest_file → capture_of (savefile capture sent) ≡ Ok (sent_capture capture sent)
reads_back capture sent fit few short small =
    header_back capture (flat_map (sent_in capture.packets) sent) (filter_map (sent_packet capture.packets) sent)
    fit.snaplen small (records_back capture.packets sent most_records file_header_len fit.packets short few)

-- numbers that rise are at least their places
place_below : (xs : List ℕ) (k : ℕ) → IsStrictlyIncreasing xs → k < length xs → k ≤ slice_index xs k
place_below xs zero rising h = omega arith
place_below xs (suc k) rising h =
    let before : k ≤ slice_index xs k = place_below xs k rising (omega arith) in
    let next : slice_index xs k < slice_index xs (k + 1) = rising k (omega arith) in
    let same : slice_index xs (k + 1) ≡ slice_index xs (suc k) = ap (slice_index xs) (omega arith) in
    omega arith

-- so there are at most as many of them as their bound
rising_few : (xs : List ℕ) (bound : ℕ) → IsStrictlyIncreasing xs → ((k : ℕ) → k < length xs → slice_index xs k < bound) → length xs ≤ bound
rising_few [] bound rising below = omega arith
rising_few (x ∷ xs) bound rising below =
    let last : length xs ≤ slice_index (x ∷ xs) (length xs) = place_below (x ∷ xs) (length xs) rising (omega arith) in
    let h : slice_index (x ∷ xs) (length xs) < bound = below (length xs) (omega arith) in
    omega arith

-- the number of a packet sent
abbrev number : ℕ × List ℕ → ℕ
number sent = sent.0

-- at most as many packets are sent as were captured
pub sent_few : (capture : Capture) (sent : List (ℕ × List ℕ)) → AreSentOf capture sent → length sent ≤ length capture.packets
sent_few capture sent h =
    let same : length (map number sent) ≡ length sent = length-map sent number in
    let few : length (map number sent) ≤ length capture.packets =
    rising_few (map number sent) (length capture.packets) h.rising
    (λ k inside. subst (λ n. n < length capture.packets) (sym (get_or-map number sent k (0, []) 0 (omega arith))) (h.within k (0, []) (omega arith))) in
    omega arith
