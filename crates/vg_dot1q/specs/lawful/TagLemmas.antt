-- For `dot1q_kinds_are_lawful`, `a_tag_comes_off_again` and `a_tag_is_renumbered`: packets whose tags are taken off, put on and renumbered.
use Rattle.std.proofs.Common.{◌≡◌, ℕ, ◌+◌, ◌-◌, ◌*◌, ◌/◌, ◌%◌, ◌<◌, ◌≤◌, Bool, true, false, ◌&&◌, ◌==◌, List, [], ◌∷◌, ◌++◌, length, take, drop, refl, ap, ◌∙◌, arith, length-append, length-drop, length-take-le, le-leb, leb-true}
use Rattle.std.specs.Prelude.{nat_le}
use Rattle.std.specs.Int.{w16, to_be_bytes}
use Rattle.std.proofs.lemmas.Bool.{and_parts, and_from, false≢true}
use Rattle.vg_model.specs.Bytes.{number16_at, overwritten}
use Rattle.vg_model.specs.Packet.{Packet}
use Rattle.vg_model.specs.Tag.{is_tagged, vlan_id, tag_of, cut, tagged, renumbered}
use Rattle.vg_model.specs.Valid.{AreBytes, IsPacket}
use Rattle.vg_model.proofs.Rewrites.{Twelve, twelve, twelve_of, length-overwritten, bytes-overwritten, bytes_take, bytes_drop}
use Rattle.vg_kinds.proofs.StepLemmas.{IsOnward}

-- what is told of a packet's tag, and what becomes of it, by its bytes alone
abbrev has_tag : List ℕ → Bool
has_tag frame = nat_le 18 (length frame) && number16_at frame 12 == 0x8100

abbrev id_of : List ℕ → ℕ
id_of frame = number16_at frame 14 % 4096

abbrev without_tag : List ℕ → List ℕ
without_tag frame = take 12 frame ++ drop 16 frame

abbrev with_tag : ℕ → List ℕ → List ℕ
with_tag id frame = take 12 frame ++ tag_of id ++ drop 12 frame

abbrev with_vlan_id : ℕ → List ℕ → List ℕ
with_vlan_id id frame = overwritten frame 14 (to_be_bytes w16 (number16_at frame 14 / 4096 * 4096 + id))

-- bytes behind bytes are bytes
bytes_append : (xs ys : List ℕ) → AreBytes xs → AreBytes ys → AreBytes (xs ++ ys)
bytes_append [] ys b c = c
bytes_append (x ∷ xs) ys b c = (b.0, bytes_append xs ys b.1 c)

-- a number of 16 bits is written as bytes
bytes_of_16 : (n : ℕ) → AreBytes (to_be_bytes w16 n)
bytes_of_16 n = (omega arith, (omega arith, tt))

-- a tagged frame has 18 bytes
long_of : (frame : List ℕ) → has_tag frame ≡ true → 18 ≤ length frame
long_of frame h = leb-true 18 (length frame) (and_parts (nat_le 18 (length frame)) (number16_at frame 12 == 0x8100) h).0

-- without its tag a frame is shorter by four bytes
length-without_tag : (frame : List ℕ) → 18 ≤ length frame → length (without_tag frame) + 4 ≡ length frame
length-without_tag frame h =
    let front : length (take 12 frame) ≡ 12 = length-take-le 12 frame (omega (arith, h)) in
    let behind : length (drop 16 frame) ≡ length frame - 16 = length-drop 16 frame in
    let both : length (without_tag frame) ≡ length (take 12 frame) + length (drop 16 frame) = length-append (take 12 frame) (drop 16 frame) in
    omega (arith, front, behind, both, h)

bytes_without_tag : (frame : List ℕ) → AreBytes frame → AreBytes (without_tag frame)
bytes_without_tag frame b = bytes_append (take 12 frame) (drop 16 frame) (bytes_take 12 frame b) (bytes_drop 16 frame b)

-- with a tag it is longer by four
length-with_tag : (id : ℕ) (frame : List ℕ) → 14 ≤ length frame → length (with_tag id frame) ≡ length frame + 4
length-with_tag id frame h =
    let front : length (take 12 frame) ≡ 12 = length-take-le 12 frame (omega (arith, h)) in
    let headed : length (take 12 frame ++ tag_of id) ≡ length (take 12 frame) + 4 = length-append (take 12 frame) (tag_of id) in
    let behind : length (drop 12 frame) ≡ length frame - 12 = length-drop 12 frame in
    let both : length (with_tag id frame) ≡ length (take 12 frame ++ tag_of id) + length (drop 12 frame) = length-append (take 12 frame ++ tag_of id) (drop 12 frame) in
    omega (arith, front, headed, behind, both, h)

bytes_with_tag : (id : ℕ) (frame : List ℕ) → AreBytes frame → AreBytes (with_tag id frame)
bytes_with_tag id frame b =
    bytes_append (take 12 frame ++ tag_of id) (drop 12 frame)
    (bytes_append (take 12 frame) (tag_of id) (bytes_take 12 frame b) (omega arith, (omega arith, bytes_of_16 id))) (bytes_drop 12 frame b)

-- with another VLAN id it is as long as before
length-with_vlan_id : (id : ℕ) (frame : List ℕ) → 18 ≤ length frame → length (with_vlan_id id frame) ≡ length frame
length-with_vlan_id id frame h = length-overwritten frame 14 (to_be_bytes w16 (number16_at frame 14 / 4096 * 4096 + id)) (omega (arith, h))

bytes_with_vlan_id : (id : ℕ) (frame : List ℕ) → AreBytes frame → AreBytes (with_vlan_id id frame)
bytes_with_vlan_id id frame b =
    let word = number16_at frame 14 / 4096 * 4096 + id in
    bytes-overwritten frame 14 (to_be_bytes w16 word) b (bytes_of_16 word)

-- a tag that was put on is one, names its VLAN, and comes off again
comes_off : (id : ℕ) (frame : List ℕ) → Twelve frame → id < 4096 → 14 ≤ length frame
    → (has_tag (with_tag id frame) ≡ true) × (id_of (with_tag id frame) ≡ id) × (without_tag (with_tag id frame) ≡ frame)
comes_off id frame (twelve b0 b1 b2 b3 b4 b5 b6 b7 b8 b9 b10 b11 rest) few long =
    let whole : List ℕ = b0 ∷ b1 ∷ b2 ∷ b3 ∷ b4 ∷ b5 ∷ b6 ∷ b7 ∷ b8 ∷ b9 ∷ b10 ∷ b11 ∷ rest in
    let size : length (with_tag id whole) ≡ length whole + 4 = length-with_tag id whole long in (
      and_from (nat_le 18 (length (with_tag id whole))) (number16_at (with_tag id whole) 12 == 0x8100) (le-leb 18 (length (with_tag id whole)) (omega (arith, size, long))) refl,
      omega (arith, few),
      refl,
    )

pub tag_comes_off : (id : ℕ) (p : Packet) → id < 4096 → 14 ≤ length p.bytes → 4 ≤ p.room
    → (is_tagged (tagged id p) ≡ true) × (vlan_id (tagged id p) ≡ id) × (cut (tagged id p) ≡ record p { checked = false })
tag_comes_off id p few long room =
    let of_bytes = comes_off id p.bytes (twelve_of p.bytes (omega (arith, long))) few long in
    let back : p.room - 4 + 4 ≡ p.room = omega (arith, room) in (
      of_bytes.0,
      of_bytes.1,
      ap (λ (bytes : List ℕ). record p { bytes = bytes; room = p.room - 4 + 4; checked = false }) of_bytes.2 ∙ ap (λ (r : ℕ). record p { room = r; checked = false }) back,
    )

-- a list of at least four
data Four : List ℕ → Type 0 where
  four : (b0 b1 b2 b3 : ℕ) (rest : List ℕ) → Four (b0 ∷ b1 ∷ b2 ∷ b3 ∷ rest)

-- taken apart
four_of : (h : List ℕ) → 4 ≤ length h → Four h
four_of (b0 ∷ b1 ∷ b2 ∷ b3 ∷ rest) h = four b0 b1 b2 b3 rest
four_of [] h = absurd (omega (arith, h))
four_of (b0 ∷ []) h = absurd (omega (arith, h))
four_of (b0 ∷ b1 ∷ []) h = absurd (omega (arith, h))
four_of (b0 ∷ b1 ∷ b2 ∷ []) h = absurd (omega (arith, h))

-- what a new VLAN id makes of a tagged frame
abbrev IsRenumbered : ℕ → List ℕ → Type 0
IsRenumbered id frame =
    (has_tag (with_vlan_id id frame) ≡ true) × (id_of (with_vlan_id id frame) ≡ id)
    × (number16_at (with_vlan_id id frame) 14 / 4096 ≡ number16_at frame 14 / 4096)

renumbered_at : (id b0 b1 b2 b3 b4 b5 b6 b7 b8 b9 b10 b11 : ℕ) (behind : List ℕ) → Four behind → id < 4096
    → (let frame = b0 ∷ b1 ∷ b2 ∷ b3 ∷ b4 ∷ b5 ∷ b6 ∷ b7 ∷ b8 ∷ b9 ∷ b10 ∷ b11 ∷ behind in
    AreBytes behind → has_tag frame ≡ true → IsRenumbered id frame)
renumbered_at id b0 b1 b2 b3 b4 b5 b6 b7 b8 b9 b10 b11 behind (four b12 b13 b14 b15 rest) few b h =
    let old = b14 * 256 + b15 in
    let new = old / 4096 * 4096 + id in
    let small : old < 65536 = omega (arith, b.1.1.0, b.1.1.1.0) in
    let whole : (new / 256 % 256) * 256 + new % 256 ≡ new = omega (arith, small, few) in
    (h, omega (arith, whole, few), omega (arith, whole, few))

renumbered_in : (id : ℕ) (frame : List ℕ) → Twelve frame → id < 4096 → AreBytes frame → has_tag frame ≡ true → IsRenumbered id frame
renumbered_in id frame (twelve b0 b1 b2 b3 b4 b5 b6 b7 b8 b9 b10 b11 behind) few b h =
    let whole : List ℕ = b0 ∷ b1 ∷ b2 ∷ b3 ∷ b4 ∷ b5 ∷ b6 ∷ b7 ∷ b8 ∷ b9 ∷ b10 ∷ b11 ∷ behind in
    let long : 18 ≤ length whole = long_of whole h in
    renumbered_at id b0 b1 b2 b3 b4 b5 b6 b7 b8 b9 b10 b11 behind (four_of behind (omega (arith, long))) few (bytes_drop 12 whole b) h

pub tag_is_renumbered : (id : ℕ) (p : Packet) → id < 4096 → AreBytes p.bytes → is_tagged p ≡ true
    → (is_tagged (renumbered id p) ≡ true) × (vlan_id (renumbered id p) ≡ id)
    × (number16_at (renumbered id p).bytes 14 / 4096 ≡ number16_at p.bytes 14 / 4096)
tag_is_renumbered id p few b h = let long = long_of p.bytes h in renumbered_in id p.bytes (twelve_of p.bytes (omega (arith, long))) few b h

-- what a packet is whose tag is taken off, that gets one, or whose tag is renumbered
pub cut_is : (p : Packet) → IsPacket p → is_tagged p ≡ true → p.room ≤ 124 → IsOnward p (cut p)
cut_is p packet has few =
    let size : length (without_tag p.bytes) + 4 ≡ length p.bytes = length-without_tag p.bytes (long_of p.bytes has) in
    record {
      number = refl;
      no_larger = omega (arith, size);
      room = λ _. omega (arith, few);
      packet = record { bytes = bytes_without_tag p.bytes packet.bytes; sound = λ e. absurd (false≢true e) };
    }

pub tagged_is : (id : ℕ) (p : Packet) → IsPacket p → 14 ≤ length p.bytes → 4 ≤ p.room → IsOnward p (tagged id p)
tagged_is id p packet long room =
    let size : length (with_tag id p.bytes) ≡ length p.bytes + 4 = length-with_tag id p.bytes long in
    record {
      number = refl;
      no_larger = omega (arith, size, room);
      room = λ few. omega (arith, few);
      packet = record { bytes = bytes_with_tag id p.bytes packet.bytes; sound = λ e. absurd (false≢true e) };
    }

pub renumbered_is : (id : ℕ) (p : Packet) → IsPacket p → is_tagged p ≡ true → IsOnward p (renumbered id p)
renumbered_is id p packet has =
    let size : length (with_vlan_id id p.bytes) ≡ length p.bytes = length-with_vlan_id id p.bytes (long_of p.bytes has) in
    record {
      number = refl;
      no_larger = omega (arith, size);
      room = λ few. few;
      packet = record { bytes = bytes_with_vlan_id id p.bytes packet.bytes; sound = λ e. absurd (false≢true e) };
    }
