-- For `ip6_kinds_are_lawful` and `all_else_of_a_frame_stays`: frames with an IPv6 header that are rewritten for a neighbor.
use Rattle.std.proofs.Common.{◌≡◌, ℕ, zero, suc, ◌-◌, ◌<◌, ◌≤◌, false, not, ◌==◌, List, [], ◌∷◌, length, take, drop, refl, ◌∙◌, arith, length-drop}
use Rattle.std.specs.Prelude.{slice_index, slice_range, nat_lt}
use Rattle.std.proofs.lemmas.Bool.{or_parts, ltb-false}
use Rattle.vg_model.specs.declared.kinds.Interface.{Interface}
use Rattle.vg_model.specs.declared.kinds.Adjacency.{Adjacency}
use Rattle.vg_model.specs.Bytes.{overwritten}
use Rattle.vg_model.specs.Visit.{version}
use Rattle.vg_model.specs.Valid.{IsMac, AreBytes}
use Rattle.vg_model.proofs.Rewrites.{Twelve, twelve, twelve_of, length-overwritten, bytes-overwritten, bytes_drop}
use Rattle.vg_ip6.specs.Header.{ip6_header_len, ip6_version, lacks_header, hop_limit}
use Rattle.vg_ip6.specs.Visit.{rewritten6}

-- a place has a byte, or 0 where there is none
byte_at : (bytes : List ℕ) (at : ℕ) → AreBytes bytes → slice_index bytes at < 256
byte_at [] at b = omega arith
byte_at (x ∷ xs) zero b = b.0
byte_at (x ∷ xs) (suc at) b = byte_at xs at b.1

-- a frame that is rewritten: its length and its bytes
pub record IsRewritten6 (frame new : List ℕ) : Type 0 where
  pub len : length new ≡ length frame
  pub bytes : AreBytes new

-- a frame with an IPv6 header keeps its length, and its bytes are bytes
pub rewritten6_is : (a : Adjacency) (i : Interface) (frame : List ℕ) → IsMac a.mac → IsMac i.mac → AreBytes frame → lacks_header (drop 14 frame) ≡ false
    → IsRewritten6 frame (rewritten6 a i frame)
rewritten6_is a i frame m1 m2 b has =
    let d : List ℕ = drop 14 frame in
    let long : 40 ≤ length d = ltb-false (length d) 40 (or_parts (nat_lt (length d) ip6_header_len) (not (version d == ip6_version)) has).0 in
    let behind : length d ≡ length frame - 14 = length-drop 14 frame in
    let six1 : length a.mac.0 ≡ 6 = m1.six in
    let six2 : length i.mac.0 ≡ 6 = m2.six in
    let to : List ℕ = overwritten frame 0 a.mac.0 in
    let from : List ℕ = overwritten to 6 i.mac.0 in
    let hop : List ℕ = (hop_limit d - 1) ∷ [] in
    let hop_byte : hop_limit d < 256 = byte_at d 7 (bytes_drop 14 frame b) in
    let len_to : length to ≡ length frame = length-overwritten frame 0 a.mac.0 (omega (arith, six1, long, behind)) in
    let len_from : length from ≡ length to = length-overwritten to 6 i.mac.0 (omega (arith, six2, long, behind, len_to)) in
    let len_new : length (overwritten from 21 hop) ≡ length from = length-overwritten from 21 hop (omega (arith, long, behind, len_to, len_from)) in
    record {
      len = len_new ∙ len_from ∙ len_to;
      bytes = bytes-overwritten from 21 hop (bytes-overwritten to 6 i.mac.0 (bytes-overwritten frame 0 a.mac.0 b m1.bytes) m2.bytes) (omega (arith, hop_byte), tt);
    }

-- a list of six
data Six : List ℕ → Type 0 where
  six : (m0 m1 m2 m3 m4 m5 : ℕ) → Six (m0 ∷ m1 ∷ m2 ∷ m3 ∷ m4 ∷ m5 ∷ [])

-- taken apart
six_of : (m : List ℕ) → length m ≡ 6 → Six m
six_of (m0 ∷ m1 ∷ m2 ∷ m3 ∷ m4 ∷ m5 ∷ []) h = six m0 m1 m2 m3 m4 m5
six_of [] h = absurd (omega (arith, h))
six_of (m0 ∷ []) h = absurd (omega (arith, h))
six_of (m0 ∷ m1 ∷ []) h = absurd (omega (arith, h))
six_of (m0 ∷ m1 ∷ m2 ∷ []) h = absurd (omega (arith, h))
six_of (m0 ∷ m1 ∷ m2 ∷ m3 ∷ []) h = absurd (omega (arith, h))
six_of (m0 ∷ m1 ∷ m2 ∷ m3 ∷ m4 ∷ []) h = absurd (omega (arith, h))
six_of (m0 ∷ m1 ∷ m2 ∷ m3 ∷ m4 ∷ m5 ∷ m6 ∷ m) h = absurd (omega (arith, h))

-- what a frame is rewritten to, by the two addresses
abbrev IsAllElse : (to from frame : List ℕ) → Type 0
IsAllElse to from frame =
    let new = overwritten (overwritten (overwritten frame 0 to) 6 from) 21 ((hop_limit (drop 14 frame) - 1) ∷ []) in
    (take 6 new ≡ to) × (slice_range new 6 12 ≡ from) × (slice_range new 12 21 ≡ slice_range frame 12 21)
    × (hop_limit (drop 14 new) ≡ hop_limit (drop 14 frame) - 1) × (drop 22 new ≡ drop 22 frame)

else_behind : (to from : List ℕ) → Six to → Six from → (b0 b1 b2 b3 b4 b5 b6 b7 b8 b9 b10 b11 : ℕ) (behind : List ℕ) → Twelve behind
    → IsAllElse to from (b0 ∷ b1 ∷ b2 ∷ b3 ∷ b4 ∷ b5 ∷ b6 ∷ b7 ∷ b8 ∷ b9 ∷ b10 ∷ b11 ∷ behind)
else_behind to from (six t0 t1 t2 t3 t4 t5) (six f0 f1 f2 f3 f4 f5) b0 b1 b2 b3 b4 b5 b6 b7 b8 b9 b10 b11 behind (twelve c0 c1 c2 c3 c4 c5 c6 c7 c8 c9 c10 c11 rest) =
    (refl, refl, refl, refl, refl)

else_of : (to from frame : List ℕ) → Six to → Six from → Twelve frame → 24 ≤ length frame → IsAllElse to from frame
else_of to from frame s t (twelve b0 b1 b2 b3 b4 b5 b6 b7 b8 b9 b10 b11 behind) h =
    else_behind to from s t b0 b1 b2 b3 b4 b5 b6 b7 b8 b9 b10 b11 behind (twelve_of behind (omega (arith, h)))

-- all else stays
pub all_else : (a : Adjacency) (i : Interface) (frame : List ℕ) → IsMac a.mac → IsMac i.mac → lacks_header (drop 14 frame) ≡ false
    → (let new = rewritten6 a i frame in
    (take 6 new ≡ a.mac.0) × (slice_range new 6 12 ≡ i.mac.0) × (slice_range new 12 21 ≡ slice_range frame 12 21)
    × (hop_limit (drop 14 new) ≡ hop_limit (drop 14 frame) - 1) × (drop 22 new ≡ drop 22 frame))
all_else a i frame m1 m2 has =
    let d : List ℕ = drop 14 frame in
    let long : 40 ≤ length d = ltb-false (length d) 40 (or_parts (nat_lt (length d) ip6_header_len) (not (version d == ip6_version)) has).0 in
    let behind : length d ≡ length frame - 14 = length-drop 14 frame in
    else_of a.mac.0 i.mac.0 frame (six_of a.mac.0 m1.six) (six_of i.mac.0 m2.six) (twelve_of frame (omega (arith, long, behind))) (omega (arith, long, behind))
