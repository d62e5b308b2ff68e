-- For the functions of `heads`: what is read of an IPv6 header in a packet's head is what is read of the packet.
use Rattle.std.proofs.Common.{◌≡◌, ℕ, ◌+◌, ◌-◌, ◌/◌, ◌≤◌, Bool, true, false, not, ◌||◌, ◌==◌, List, length, take, drop, refl, ap, ◌∙◌, arith, length-drop}
use Rattle.std.specs.Prelude.{nat_lt, slice_index, bit_xor}
use Rattle.std.specs.Int.{w128, from_be_bytes}
use Rattle.std.proofs.lemmas.Bool.{or_parts, ltb-false}
use Rattle.std.proofs.lemmas.List.{get_or-take}
use Rattle.vg_model.specs.Bytes.{number32_at}
use Rattle.vg_model.specs.Hash.{mixed}
use Rattle.vg_model.specs.Packet.{Packet}
use Rattle.vg_model.specs.Valid.{IsPacket}
use Rattle.vg_model.specs.Visit.{datagram, version}
use Rattle.vg_pool.specs.Contents.{Contents, AreContents, head_of}
use Rattle.vg_nodes.proofs.HeadLemmas.{shorter_than, part_of_first, number16_of_first, number32_of_first, head_room, datagram_head}
use Rattle.vg_ip6.specs.Header.{ip6_header_len, ip6_version, lacks_header, payload_len, hop_limit, destination6, address_key, flow_hash6}
use Rattle.vg_ip6.specs.lawful.KindLaws.{no_mark}

-- what is read of the first bytes, where they are as many as a header has, or more
lacks_of_first : (m : ℕ) (d : List ℕ) → 40 ≤ m → lacks_header (take m d) ≡ lacks_header d
lacks_of_first m d long =
    ap (λ (b : Bool). b || not (slice_index (take m d) 0 / 16 == 6)) (shorter_than m 40 d long)
    ∙ ap (λ (x : ℕ). nat_lt (length d) 40 || not (x / 16 == 6)) (get_or-take m d 0 0 (omega (arith, long)))

destination_of_first : (m : ℕ) (d : List ℕ) → 40 ≤ m → destination6 (take m d) ≡ destination6 d
destination_of_first m d long = ap (from_be_bytes w128) (part_of_first m 24 16 d (omega (arith, long)))

key_same : (f g : ℕ → ℕ) → ((at : ℕ) → at + 4 ≤ 40 → f at ≡ g at)
    → bit_xor (bit_xor (bit_xor (bit_xor (bit_xor (bit_xor (bit_xor (f 8) (f 12)) (f 16)) (f 20)) (f 24)) (f 28)) (f 32)) (f 36)
    ≡ bit_xor (bit_xor (bit_xor (bit_xor (bit_xor (bit_xor (bit_xor (g 8) (g 12)) (g 16)) (g 20)) (g 24)) (g 28)) (g 32)) (g 36)
key_same f g same =
    let a : f 8 ≡ g 8 = same 8 (omega arith) in
    let b : f 12 ≡ g 12 = same 12 (omega arith) in
    let c : f 16 ≡ g 16 = same 16 (omega arith) in
    let d : f 20 ≡ g 20 = same 20 (omega arith) in
    let e : f 24 ≡ g 24 = same 24 (omega arith) in
    let h : f 28 ≡ g 28 = same 28 (omega arith) in
    let i : f 32 ≡ g 32 = same 32 (omega arith) in
    let j : f 36 ≡ g 36 = same 36 (omega arith) in
    cc

key_of_first : (m : ℕ) (d : List ℕ) → 40 ≤ m → address_key (take m d) ≡ address_key d
key_of_first m d long = key_same (number32_at (take m d)) (number32_at d) (λ at h. number32_of_first m at d (omega (arith, h, long)))

-- so many bytes of a datagram stand in the head, or more, where the packet has them
abbrev within : Contents → ℕ
within c = 2112 - c.packet.room - 14

enough : (c : Contents) → AreContents c → 40 ≤ within c
enough c are = let big = head_room c are in omega (arith, big)

pub lacks_head : (c : Contents) → AreContents c → lacks_header (drop 14 (head_of c.packet)) ≡ lacks_header (drop 14 c.packet.bytes)
lacks_head c are = ap lacks_header (datagram_head c are) ∙ lacks_of_first (within c) (drop 14 c.packet.bytes) (enough c are)

pub destination6_head : (c : Contents) → AreContents c → destination6 (drop 14 (head_of c.packet)) ≡ destination6 (drop 14 c.packet.bytes)
destination6_head c are = ap destination6 (datagram_head c are) ∙ destination_of_first (within c) (drop 14 c.packet.bytes) (enough c are)

pub hash6_head : (c : Contents) → AreContents c → flow_hash6 (drop 14 (head_of c.packet)) ≡ flow_hash6 (drop 14 c.packet.bytes)
hash6_head c are = ap flow_hash6 (datagram_head c are) ∙ ap mixed (key_of_first (within c) (drop 14 c.packet.bytes) (enough c are))

pub payload_head : (c : Contents) → AreContents c → payload_len (drop 14 (head_of c.packet)) ≡ payload_len (drop 14 c.packet.bytes)
payload_head c are =
    ap payload_len (datagram_head c are) ∙ number16_of_first (within c) 4 (drop 14 c.packet.bytes) (let big = enough c are in omega (arith, big))

pub hops_head : (c : Contents) → AreContents c → hop_limit (drop 14 (head_of c.packet)) ≡ hop_limit (drop 14 c.packet.bytes)
hops_head c are = ap hop_limit (datagram_head c are) ∙ get_or-take (within c) (drop 14 c.packet.bytes) 7 0 (let big = enough c are in omega (arith, big))

-- a header stands in the head
pub datagram_long6 : (c : Contents) → AreContents c → lacks_header (drop 14 c.packet.bytes) ≡ false → 40 ≤ length (drop 14 (head_of c.packet))
datagram_long6 c are has =
    let d : List ℕ = drop 14 (head_of c.packet) in
    ltb-false (length d) 40 (or_parts (nat_lt (length d) ip6_header_len) (not (version d == ip6_version)) (lacks_head c are ∙ has)).0

pub head_long6 : (c : Contents) → AreContents c → lacks_header (drop 14 c.packet.bytes) ≡ false → 54 ≤ length (head_of c.packet)
head_long6 c are has =
    let long = datagram_long6 c are has in
    let size : length (drop 14 (head_of c.packet)) ≡ length (head_of c.packet) - 14 = length-drop 14 (head_of c.packet) in
    omega (arith, long, size)

-- a packet with an IPv6 header lacks the mark
pub unmarked : (p : Packet) → IsPacket p → lacks_header (datagram p) ≡ false → p.checked ≡ false
unmarked p packet has = by_mark p.checked refl
  where
    by_mark : (b : Bool) → p.checked ≡ b → p.checked ≡ false
    by_mark true e = absurd (no_mark p packet has e)
    by_mark false e = e
