-- For the clause `read` of `read_places`, and for `written_is_read_back`: reading records one by one.
use Rattle.std.proofs.Common.{◌≡◌, ℕ, zero, suc, ◌+◌, ◌-◌, ◌<◌, ◌≤◌, Bool, true, false, List, [], ◌∷◌, ◌++◌, length, take, drop, refl, sym, ap, subst, ◌∙◌, arith, append_assoc, true≢false, length-append, length-drop}
use Rattle.std.specs.Prelude.{Result, Ok, Err, nat_lt}
use Rattle.std.proofs.lemmas.Bool.{lt-ltb, le-ltb}
use Rattle.vg_capture.specs.declared.captures.Captured.{Captured}
use Rattle.vg_capture.specs.declared.errors.CaptureError.{CaptureError}
use Rattle.vg_capture.specs.declared.errors.CaptureError.TheVariants as errors
use Rattle.vg_capture.specs.Savefile.{◌>>=◌, refused_if, Order, number32, captured_of, records_at, records_of, record_header_len, longest_record, most_records, file_header_len}

-- these packets, and then what is read
abbrev pub with_front : List Captured → Result (List Captured) CaptureError → Result (List Captured) CaptureError
with_front front (Ok packets) = Ok (front ++ packets)
with_front front (Err error) = Err error

-- a check that passes, and one that doesn't
pub passed : {X : Type 0} (b : Bool) (e : CaptureError) (f : Unit {0} → Result X CaptureError) → b ≡ false → (refused_if b e >>= f) ≡ f tt
passed false e f h = refl
passed true e f h = absurd (true≢false h)

pub stopped : {X : Type 0} (b : Bool) (e : CaptureError) (f : Unit {0} → Result X CaptureError) → b ≡ true → (refused_if b e >>= f) ≡ Err e
stopped true e f h = refl
stopped false e f h = absurd (true≢false (sym h))

-- one packet in front
in_front : (first : Captured) (r : Result (List Captured) CaptureError) → (r >>= λ others. Ok (first ∷ others)) ≡ with_front (first ∷ []) r
in_front first (Ok others) = refl
in_front first (Err e) = refl

-- where there are bytes, room for a packet, a header, and the packet's bytes, one record is read
pub record_read : (order : Order) (left place : ℕ) (bytes : List ℕ) → 0 < left → 16 ≤ length bytes → number32 order bytes 8 ≤ 262144
    → number32 order bytes 8 ≤ length (drop 16 bytes)
    → records_at order left place bytes
    ≡ with_front (captured_of order bytes ∷ []) (records_at order (left - 1) (place + 16 + number32 order bytes 8) (drop (number32 order bytes 8) (drop 16 bytes)))
record_read order zero place bytes h i j k = absurd (omega (arith, h))
record_read order (suc left) place [] h i j k = absurd (omega (arith, i))
record_read order (suc left) place (byte ∷ rest) h i j k =
    let bytes : List ℕ = byte ∷ rest in
    let len = number32 order bytes 8 in
    let one : nat_lt (length bytes) record_header_len ≡ false = le-ltb (length bytes) record_header_len i in
    let two : nat_lt longest_record len ≡ false = le-ltb longest_record len j in
    let three : nat_lt (length (drop 16 bytes)) len ≡ false = le-ltb (length (drop 16 bytes)) len k in
    passed (nat_lt (length bytes) record_header_len) (errors.Truncated place) _ one
    ∙ passed (nat_lt longest_record len) (errors.RecordTooLong place) _ two
    ∙ passed (nat_lt (length (drop 16 bytes)) len) (errors.Truncated (place + record_header_len)) _ three
    ∙ in_front (captured_of order bytes) (records_at order left (place + 16 + len) (drop len (drop 16 bytes)))
    ∙ ap (λ n. with_front (captured_of order bytes ∷ []) (records_at order n (place + 16 + len) (drop len (drop 16 bytes)))) (omega arith)

-- a check that fails
record_short : (order : Order) (left place : ℕ) (bytes : List ℕ) → 0 < left → 0 < length bytes → length bytes < 16
    → records_at order left place bytes ≡ Err (errors.Truncated place)
record_short order zero place bytes h i j = absurd (omega (arith, h))
record_short order (suc left) place [] h i j = absurd (omega (arith, i))
record_short order (suc left) place (byte ∷ rest) h i j = stopped _ (errors.Truncated place) _ (lt-ltb (length (byte ∷ rest)) 16 j)

record_many : (order : Order) (place : ℕ) (bytes : List ℕ) → 0 < length bytes → records_at order 0 place bytes ≡ Err (errors.TooManyPackets place)
record_many order place [] i = absurd (omega (arith, i))
record_many order place (byte ∷ rest) i = refl

record_long : (order : Order) (left place : ℕ) (bytes : List ℕ) → 0 < left → 16 ≤ length bytes → 262144 < number32 order bytes 8
    → records_at order left place bytes ≡ Err (errors.RecordTooLong place)
record_long order zero place bytes h i j = absurd (omega (arith, h))
record_long order (suc left) place [] h i j = absurd (omega (arith, i))
record_long order (suc left) place (byte ∷ rest) h i j =
    passed _ (errors.Truncated place) _ (le-ltb (length (byte ∷ rest)) 16 i) ∙ stopped _ (errors.RecordTooLong place) _ (lt-ltb 262144 (number32 order (byte ∷ rest) 8) j)

record_cut : (order : Order) (left place : ℕ) (bytes : List ℕ) → 0 < left → 16 ≤ length bytes → number32 order bytes 8 ≤ 262144
    → length (drop 16 bytes) < number32 order bytes 8 → records_at order left place bytes ≡ Err (errors.Truncated (place + 16))
record_cut order zero place bytes h i j k = absurd (omega (arith, h))
record_cut order (suc left) place [] h i j k = absurd (omega (arith, i))
record_cut order (suc left) place (byte ∷ rest) h i j k =
    passed _ (errors.Truncated place) _ (le-ltb (length (byte ∷ rest)) 16 i)
    ∙ passed _ (errors.RecordTooLong place) _ (le-ltb 262144 (number32 order (byte ∷ rest) 8) j)
    ∙ stopped _ (errors.Truncated (place + 16)) _ (lt-ltb (length (drop 16 (byte ∷ rest))) (number32 order (byte ∷ rest) 8) k)

-- fronts join
pub with_front_twice : (xs ys : List Captured) (r : Result (List Captured) CaptureError) → with_front xs (with_front ys r) ≡ with_front (xs ++ ys) r
with_front_twice xs ys (Ok zs) = ap Ok (sym (append_assoc xs ys zs))
with_front_twice xs ys (Err e) = refl

-- so far these packets were read, up to a place with this rest behind it
pub record IsRead (order : Order) (bytes : List ℕ) (place : ℕ) (rest : List ℕ) (packets : List Captured) : Type 0 where
  pub read : records_at order most_records file_header_len bytes ≡ with_front packets (records_at order (most_records - length packets) place rest)
  pub few : length packets ≤ most_records
  pub at : place + length rest ≡ file_header_len + length bytes

-- nothing was read yet
pub read_start : (order : Order) (bytes : List ℕ) → IsRead order bytes 24 bytes []
read_start order bytes = record { read = sym (nothing (records_at order most_records 24 bytes)); few = omega arith; at = refl }
  where
    nothing : (r : Result (List Captured) CaptureError) → with_front [] r ≡ r
    nothing (Ok xs) = refl
    nothing (Err e) = refl

-- a fault behind what was read is the fault
read_err : (order : Order) (bytes : List ℕ) (place : ℕ) (rest : List ℕ) (packets : List Captured) (e : CaptureError) → IsRead order bytes place rest packets
    → records_at order (most_records - length packets) place rest ≡ Err e → records_at order most_records file_header_len bytes ≡ Err e
read_err order bytes place rest packets e i h = i.read ∙ ap (with_front packets) h

-- one more packet was read
read_more : (order : Order) (bytes : List ℕ) (place : ℕ) (rest : List ℕ) (packets : List Captured) → IsRead order bytes place rest packets
    → length packets < most_records → 16 ≤ length rest → number32 order rest 8 ≤ 262144 → number32 order rest 8 ≤ length (drop 16 rest)
    → IsRead order bytes (place + 16 + number32 order rest 8) (drop (number32 order rest 8) (drop 16 rest)) (packets ++ captured_of order rest ∷ [])
read_more order bytes place rest packets i few header short body =
    let len = number32 order rest 8 in
    let more : length (packets ++ captured_of order rest ∷ []) ≡ length packets + 1 = length-append packets (captured_of order rest ∷ []) in
    record {
      read = i.read
          ∙ ap (with_front packets) (record_read order (most_records - length packets) place rest (omega (arith, few)) header short body)
          ∙ with_front_twice packets (captured_of order rest ∷ []) _
          ∙ ap (λ n. with_front (packets ++ captured_of order rest ∷ []) (records_at order n (place + 16 + len) (drop len (drop 16 rest)))) (omega (arith, more));
      few = omega (arith, more, few);
      at = omega (arith, length-drop len (drop 16 rest), length-drop 16 rest, i.at, body, header);
    }

-- the same, said of equals
read_as : (order : Order) (bytes : List ℕ) (place place' : ℕ) (rest rest' : List ℕ) (packets packets' : List Captured) → place ≡ place' → rest ≡ rest' → packets ≡ packets'
    → IsRead order bytes place rest packets → IsRead order bytes place' rest' packets'
read_as order bytes place place' rest rest' packets packets' e f g i =
    subst (λ p. IsRead order bytes p rest' packets') e (subst (λ r. IsRead order bytes place r packets') f (subst (λ ps. IsRead order bytes place rest ps) g i))

-- a packet with a record's fields is the packet of that record
pub captured_as : (order : Order) (rest : List ℕ) (len : ℕ) (captured : Captured) → captured.seconds ≡ number32 order rest 0 → captured.fraction ≡ number32 order rest 4
    → captured.original ≡ number32 order rest 12 → len ≡ number32 order rest 8 → captured.bytes ≡ take len (drop 16 rest) → captured ≡ captured_of order rest
captured_as order rest len captured seconds fraction original n bytes =
    let all : captured.bytes ≡ take (number32 order rest 8) (drop 16 rest) = bytes ∙ ap (λ k. take k (drop 16 rest)) n in
    λ i. record { seconds = seconds i; fraction = fraction i; original = original i; bytes = all i }

-- one more packet was read, whose captured length and bytes are these
pub read_next : (order : Order) (bytes : List ℕ) (place place' : ℕ) (rest : List ℕ) (packets : List Captured) (len : ℕ) (body others : List ℕ) (captured : Captured) (packets' : List Captured)
    → place' ≡ place + 16 + len → IsRead order bytes place rest packets → length packets < most_records → 16 ≤ length rest → len ≡ number32 order rest 8 → len ≤ 262144 → body ≡ drop 16 rest → len ≤ length body
    → others ≡ drop len body → captured ≡ captured_of order rest → packets' ≡ packets ++ captured ∷ [] → IsRead order bytes place' others packets'
read_next order bytes place place' rest packets len body others captured packets' at i few header n short b fits o c p =
    let enough : number32 order rest 8 ≤ length (drop 16 rest) = subst (λ k. k ≤ length (drop 16 rest)) n (subst (λ xs. len ≤ length xs) b fits) in
    let behind : others ≡ drop (number32 order rest 8) (drop 16 rest) = o ∙ ap (drop len) b ∙ ap (λ k. drop k (drop 16 rest)) n in
    let more : packets' ≡ packets ++ captured_of order rest ∷ [] = p ∙ ap (λ x. packets ++ x ∷ []) c in
    read_as order bytes _ _ _ _ _ _ (ap (λ k. place + 16 + k) (sym n) ∙ sym at) (sym behind) (sym more)
    (read_more order bytes place rest packets i few header (subst (λ k. k ≤ 262144) n short) enough)

-- refusals of what stands behind the packets that were read: no whole header, a captured length that is too long, too few bytes
pub refused_short : (order : Order) (bytes : List ℕ) (place : ℕ) (rest : List ℕ) (packets : List Captured) → IsRead order bytes place rest packets → length packets < most_records
    → 0 < length rest → length rest < 16 → records_of order bytes ≡ Err (errors.Truncated place)
refused_short order bytes place rest packets i few some short =
    read_err order bytes place rest packets (errors.Truncated place) i (record_short order (most_records - length packets) place rest (omega arith) some short)

pub refused_long : (order : Order) (bytes : List ℕ) (place : ℕ) (rest : List ℕ) (packets : List Captured) (len : ℕ) → IsRead order bytes place rest packets
    → length packets < most_records → 16 ≤ length rest → len ≡ number32 order rest 8 → 262144 < len → records_of order bytes ≡ Err (errors.RecordTooLong place)
refused_long order bytes place rest packets len i few header n long =
    read_err order bytes place rest packets (errors.RecordTooLong place) i
    (record_long order (most_records - length packets) place rest (omega arith) header (subst (λ k. 262144 < k) n long))

pub refused_cut : (order : Order) (bytes : List ℕ) (place : ℕ) (rest : List ℕ) (packets : List Captured) (len : ℕ) (body : List ℕ) → IsRead order bytes place rest packets
    → length packets < most_records → 16 ≤ length rest → len ≡ number32 order rest 8 → len ≤ 262144 → body ≡ drop 16 rest → length body < len
    → records_of order bytes ≡ Err (errors.Truncated (place + 16))
refused_cut order bytes place rest packets len body i few header n short b cut =
    read_err order bytes place rest packets (errors.Truncated (place + 16)) i
    (record_cut order (most_records - length packets) place rest (omega arith) header (subst (λ k. k ≤ 262144) n short)
    (subst (λ k. length (drop 16 rest) < k) n (subst (λ xs. length xs < len) b cut)))
