-- For `heads`: what is read of the first bytes of a packet is what is read of the packet.
use Rattle.std.proofs.Common.{◌≡◌, ℕ, ◌+◌, ◌-◌, ◌*◌, ◌/◌, ◌%◌, ◌<◌, ◌≤◌, inl, inr, refl, Bool, true, false, not, ◌==◌, List, length, take, drop, sym, ap, ◌∙◌, arith, length-drop}
use Rattle.std.specs.Prelude.{Option, Some, None, nat_lt, nat_le, ◌||◌, ◌&&◌, if◌then◌else◌, bytes_eq, slice_index, min}
use Rattle.std.specs.Int.{w16, w32, from_be_bytes}
use Rattle.std.proofs.lemmas.Bool.{cases_lt, lt-ltb, le-ltb, le-leb, lt-leb}
use Rattle.std.proofs.lemmas.List.{get_or-take, take-take, length-take}
use Rattle.vg_model.specs.declared.kinds.DropError.{DropError}
use Rattle.vg_model.specs.declared.kinds.DropError.TheVariants as errors
use Rattle.vg_model.specs.declared.kinds.HashKind.{HashKind}
use Rattle.vg_model.specs.declared.kinds.Interface.{Interface}
use Rattle.vg_model.specs.Bytes.{number16_at, number32_at}
use Rattle.vg_model.specs.Hash.{flow_hash, hash_key, mixed}
use Rattle.vg_model.specs.Header.{verifies}
use Rattle.vg_model.specs.Visit.{fault_within, header_fault, header_len, total_len, time_to_live, destination, is_foreign}
use Rattle.vg_pool.specs.Contents.{Contents, AreContents, head_of}
use Rattle.vg_pool.proofs.AreaLemmas.{drop_of_take}
use Rattle.vg_nodes.proofs.RewriteLemmas.{long_enough}

-- whether there are fewer bytes than so many
same_test : (n m L : ℕ) → m ≤ n → nat_lt (min n L) m ≡ nat_lt L m
same_test n m L few =
    elim (cases_lt L m) [
      | inl less ↦ lt-ltb (min n L) m (omega (arith, less)) ∙ sym (lt-ltb L m less)
      | inr more ↦ le-ltb (min n L) m (omega (arith, more, few)) ∙ sym (le-ltb L m more)
    ]

pub shorter_than : (n m : ℕ) (f : List ℕ) → m ≤ n → nat_lt (length (take n f)) m ≡ nat_lt (length f) m
shorter_than n m f few = ap (λ k. nat_lt k m) (length-take n f) ∙ same_test n m (length f) few

-- a part of the first bytes
pub part_of_first : (n k size : ℕ) (f : List ℕ) → k + size ≤ n → take size (drop k (take n f)) ≡ take size (drop k f)
part_of_first n k size f within =
    ap (take size) (drop_of_take k n f (omega (arith, within))) ∙ take-take size (n - k) (drop k f) (omega (arith, within))

pub number16_of_first : (n at : ℕ) (f : List ℕ) → at + 2 ≤ n → number16_at (take n f) at ≡ number16_at f at
number16_of_first n at f within =
    let two : at + 2 - at ≡ 2 = omega arith in
    ap (λ k. from_be_bytes w16 (take k (drop at (take n f)))) two ∙ ap (from_be_bytes w16) (part_of_first n at 2 f within)
    ∙ ap (λ k. from_be_bytes w16 (take k (drop at f))) (sym two)

pub number32_of_first : (n at : ℕ) (f : List ℕ) → at + 4 ≤ n → number32_at (take n f) at ≡ number32_at f at
number32_of_first n at f within =
    let four : at + 4 - at ≡ 4 = omega arith in
    ap (λ k. from_be_bytes w32 (take k (drop at (take n f)))) four ∙ ap (from_be_bytes w32) (part_of_first n at 4 f within)
    ∙ ap (λ k. from_be_bytes w32 (take k (drop at f))) (sym four)

pub foreign_of_first : (i : Interface) (n : ℕ) (f : List ℕ) → 6 ≤ n → is_foreign i (take n f) ≡ is_foreign i f
foreign_of_first i n f long =
    ap (λ (to : List ℕ). i.filter && not (bytes_eq to (i.mac.0)) && slice_index (take n f) 0 % 2 == 0) (take-take 6 n f long)
    ∙ ap (λ (first : ℕ). i.filter && not (bytes_eq (take 6 f) (i.mac.0)) && first % 2 == 0) (get_or-take n f 0 0 (omega (arith, long)))

long_test : (n : ℕ) (f : List ℕ) → 34 ≤ n → nat_le 34 (length (take n f)) ≡ nat_le 34 (length f)
long_test n f long =
    let size : length (take n f) ≡ min n (length f) = length-take n f in
    elim (cases_lt (length f) 34) [
      | inl less ↦ lt-leb 34 (length (take n f)) (omega (arith, size, less)) ∙ sym (lt-leb 34 (length f) less)
      | inr more ↦ le-leb 34 (length (take n f)) (omega (arith, size, more, long)) ∙ sym (le-leb 34 (length f) more)
    ]

pub hash_of_first : (kind : HashKind) (n : ℕ) (f : List ℕ) → 34 ≤ n → flow_hash kind (take n f) ≡ flow_hash kind f
hash_of_first kind n f long =
    ap (λ (b : Bool). if b && number16_at (take n f) 12 == 0x0800 then mixed (hash_key kind (number32_at (take n f) 26) (number32_at (take n f) 30)) else 0) (long_test n f long)
    ∙ ap (λ (t : ℕ). if nat_le 34 (length f) && t == 0x0800 then mixed (hash_key kind (number32_at (take n f) 26) (number32_at (take n f) 30)) else 0) (number16_of_first n 12 f (omega (arith, long)))
    ∙ ap (λ (s : ℕ). if nat_le 34 (length f) && number16_at f 12 == 0x0800 then mixed (hash_key kind s (number32_at (take n f) 30)) else 0) (number32_of_first n 26 f (omega (arith, long)))
    ∙ ap (λ (d : ℕ). if nat_le 34 (length f) && number16_at f 12 == 0x0800 then mixed (hash_key kind (number32_at f 26) d) else 0) (number32_of_first n 30 f long)

-- what stands behind the Ethernet header
pub datagram_of_first : (n : ℕ) (f : List ℕ) → 14 ≤ n → drop 14 (take n f) ≡ take (n - 14) (drop 14 f)
datagram_of_first n f long = drop_of_take 14 n f long

-- the checks of a header, by what they look at
abbrev fault_by : (len first total ttl : ℕ) → List ℕ → Option DropError
fault_by len first total ttl header =
    if nat_lt len 20 then Some errors.Short
    else if not (first / 16 == 4) then Some errors.BadVersion
    else if nat_lt (first % 16 * 4) 20 || nat_lt len (first % 16 * 4) then Some errors.BadHeaderLength
    else if nat_lt total (first % 16 * 4) || nat_lt len total then Some errors.BadLength
    else if not (verifies header) then Some errors.BadChecksum
    else if ttl == 0 then Some errors.TtlZero
    else None

-- the checks read of the first bytes, with the whole length
pub fault_of_first : (m : ℕ) (d : List ℕ) → 60 ≤ m → fault_within (take m d) (length d) ≡ header_fault d
fault_of_first m d long =
    let first : slice_index (take m d) 0 ≡ slice_index d 0 = get_or-take m d 0 0 (omega (arith, long)) in
    let total : total_len (take m d) ≡ total_len d = number16_of_first m 2 d (omega (arith, long)) in
    let ttl : slice_index (take m d) 8 ≡ slice_index d 8 = get_or-take m d 8 0 (omega (arith, long)) in
    let header : take (slice_index d 0 % 16 * 4) (take m d) ≡ take (slice_index d 0 % 16 * 4) d = take-take (slice_index d 0 % 16 * 4) m d (omega (arith, long)) in
    ap (λ (x : ℕ). fault_by (length d) x (total_len (take m d)) (slice_index (take m d) 8) (take (x % 16 * 4) (take m d))) first
    ∙ ap (λ (x : ℕ). fault_by (length d) (slice_index d 0) x (slice_index (take m d) 8) (take (slice_index d 0 % 16 * 4) (take m d))) total
    ∙ ap (λ (x : ℕ). fault_by (length d) (slice_index d 0) (total_len d) x (take (slice_index d 0 % 16 * 4) (take m d))) ttl
    ∙ ap (λ (x : List ℕ). fault_by (length d) (slice_index d 0) (total_len d) (slice_index d 8) x) header

-- how much the first buffer may have of a packet
pub head_room : (c : Contents) → AreContents c → 1984 ≤ 2112 - c.packet.room
head_room c are = let room = are.room in omega (arith, room)

-- a header that passes stands in the head
pub header_long : (c : Contents) → AreContents c → header_fault (drop 14 c.packet.bytes) ≡ None → 34 ≤ length (head_of c.packet)
header_long c are sound =
    let long : 34 ≤ length c.packet.bytes = long_enough c.packet.bytes sound in
    let size : length (head_of c.packet) ≡ min (2112 - c.packet.room) (length c.packet.bytes) = length-take (2112 - c.packet.room) c.packet.bytes in
    let room = are.room in
    omega (arith, size, long, room)

-- so that has the Ethernet header
pub head_long : (c : Contents) → AreContents c → (head : List ℕ) → head ≡ head_of c.packet → header_fault (drop 14 c.packet.bytes) ≡ None → 14 ≤ length head
head_long c are head is sound =
    let long = header_long c are sound in
    let size : length head ≡ length (head_of c.packet) = ap length is in
    omega (arith, long, size)

-- the first check of a header fails where it is too short
first_short : (short : Bool) (rest : Option DropError) → short ≡ true → Some errors.Short ≡ (if short then Some errors.Short else rest)
first_short true rest h = refl
first_short false rest h = cc

-- a packet whose head has no Ethernet header has no IPv4 header
pub short_fault : (c : Contents) → AreContents c → (head : List ℕ) → head ≡ head_of c.packet → length head < 14 → Some errors.Short ≡ header_fault (drop 14 c.packet.bytes)
short_fault c are head is short =
    let d : List ℕ = drop 14 c.packet.bytes in
    let size : length head ≡ min (2112 - c.packet.room) (length c.packet.bytes) = ap length is ∙ length-take (2112 - c.packet.room) c.packet.bytes in
    let behind : length d ≡ length c.packet.bytes - 14 = length-drop 14 c.packet.bytes in
    let room = head_room c are in
    first_short (nat_lt (length d) 20) _ (lt-ltb (length d) 20 (omega (arith, size, behind, short, room)))

pub datagram_long : (c : Contents) → AreContents c → header_fault (drop 14 c.packet.bytes) ≡ None → 20 ≤ length (drop 14 (head_of c.packet))
datagram_long c are sound =
    let long = header_long c are sound in
    let size : length (drop 14 (head_of c.packet)) ≡ length (head_of c.packet) - 14 = length-drop 14 (head_of c.packet) in
    omega (arith, long, size)

-- what stands behind the Ethernet header in the head
pub datagram_head : (c : Contents) → AreContents c → drop 14 (head_of c.packet) ≡ take (2112 - c.packet.room - 14) (drop 14 c.packet.bytes)
datagram_head c are = datagram_of_first (2112 - c.packet.room) c.packet.bytes (let big = head_room c are in omega (arith, big))

pub destination_head : (c : Contents) → AreContents c → destination (drop 14 (head_of c.packet)) ≡ destination (drop 14 c.packet.bytes)
destination_head c are =
    ap destination (datagram_head c are) ∙ number32_of_first (2112 - c.packet.room - 14) 16 (drop 14 c.packet.bytes) (let big = head_room c are in omega (arith, big))

pub ttl_head : (c : Contents) → AreContents c → time_to_live (drop 14 (head_of c.packet)) ≡ time_to_live (drop 14 c.packet.bytes)
ttl_head c are =
    ap time_to_live (datagram_head c are) ∙ get_or-take (2112 - c.packet.room - 14) (drop 14 c.packet.bytes) 8 0 (let big = head_room c are in omega (arith, big))

pub total_head : (c : Contents) → AreContents c → total_len (drop 14 (head_of c.packet)) ≡ total_len (drop 14 c.packet.bytes)
total_head c are =
    ap total_len (datagram_head c are) ∙ number16_of_first (2112 - c.packet.room - 14) 2 (drop 14 c.packet.bytes) (let big = head_room c are in omega (arith, big))

pub header_len_head : (c : Contents) → AreContents c → header_len (drop 14 (head_of c.packet)) ≡ header_len (drop 14 c.packet.bytes)
header_len_head c are =
    ap header_len (datagram_head c are) ∙ ap (λ (x : ℕ). x % 16 * 4) (get_or-take (2112 - c.packet.room - 14) (drop 14 c.packet.bytes) 0 0 (let big = head_room c are in omega (arith, big)))

pub header_head : (c : Contents) → AreContents c → (n : ℕ) → n ≤ 60 → take n (drop 14 (head_of c.packet)) ≡ take n (drop 14 c.packet.bytes)
header_head c are n few =
    ap (take n) (datagram_head c are) ∙ take-take n (2112 - c.packet.room - 14) (drop 14 c.packet.bytes) (let big = head_room c are in omega (arith, big, few))
