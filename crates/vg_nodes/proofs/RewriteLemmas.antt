-- For `nodes::ip4_rewrite::rewrite` and `lower_header`: a frame whose headers are written anew part by part, the two addresses and then
-- the IPv4 header.
use Rattle.std.proofs.Common.{◌≡◌, ◌≢◌, ℕ, ◌+◌, ◌-◌, ◌≤◌, true, List, ◌++◌, length, take, drop, sym, ap, ◌∙◌, arith, append_assoc, length-drop, length-take-le}
use Rattle.std.specs.Prelude.{None, min}
use Rattle.std.proofs.lemmas.Bool.{ne_eqb}
use Rattle.std.proofs.lemmas.List.{drop-drop, length-take, take-append-drop, take-append-le, drop-append-le}
use Rattle.std.proofs.Math.Seq.{take-append-add, drop-append-add}
use Rattle.vg_model.specs.declared.kinds.Adjacency.{Adjacency}
use Rattle.vg_model.specs.declared.kinds.Interface.{Interface}
use Rattle.vg_model.specs.Bytes.{overwritten}
use Rattle.vg_model.specs.Header.{lowered}
use Rattle.vg_model.specs.Packet.{Packet}
use Rattle.vg_model.specs.Valid.{IsMac, IsPacket}
use Rattle.vg_model.specs.Visit.{header_fault, header_len, time_to_live, datagram, rewritten}
use Rattle.vg_model.proofs.Rewrites.{Passes, passes_of, length-overwritten, drop-overwritten, rewritten_is}
use Rattle.vg_pool.specs.Contents.{Contents, head_of, written}

-- the frame with its header lowered in place
abbrev pub with_lowered : List ℕ → List ℕ
with_lowered f = overwritten f 14 (lowered (take (header_len (drop 14 f)) (drop 14 f)))

-- a frame whose header passes has both headers whole
pub long_enough : (f : List ℕ) → header_fault (drop 14 f) ≡ None → 34 ≤ length f
long_enough f sound =
    let passes : Passes (drop 14 f) = passes_of (drop 14 f) sound in
    let long : length (drop 14 f) ≡ length f - 14 = length-drop 14 f in
    omega (arith, passes.len, long)

-- what stands behind the Ethernet header stays as the first address is written
pub behind_first : (f to : List ℕ) → length to ≡ 6 → header_fault (drop 14 f) ≡ None → drop 14 (overwritten f 0 to) ≡ drop 14 f
behind_first f to six sound =
    let long = long_enough f sound in
    drop-overwritten f 0 to 14 (omega (arith, six)) (omega (arith, six, long))

-- and as both are
pub behind_both : (f to from : List ℕ) → length to ≡ 6 → length from ≡ 6 → header_fault (drop 14 f) ≡ None → drop 14 (overwritten (overwritten f 0 to) 6 from) ≡ drop 14 f
behind_both f to from six six2 sound =
    let long = long_enough f sound in
    let same : length (overwritten f 0 to) ≡ length f = length-overwritten f 0 to (omega (arith, six, long)) in
    drop-overwritten (overwritten f 0 to) 6 from 14 (omega (arith, six2)) (omega (arith, six2, long, same)) ∙ behind_first f to six sound

-- the frame with both addresses written and its header lowered is the frame rewritten
pub rewritten_in_parts : (adjacency : Adjacency) (interface : Interface) (f : List ℕ) → length adjacency.mac.0 ≡ 6 → length interface.mac.0 ≡ 6 → header_fault (drop 14 f) ≡ None
    → with_lowered (overwritten (overwritten f 0 adjacency.mac.0) 6 interface.mac.0) ≡ rewritten adjacency interface f
rewritten_in_parts adjacency interface f six six2 sound =
    let both : List ℕ = overwritten (overwritten f 0 adjacency.mac.0) 6 interface.mac.0 in
    ap (λ d. overwritten both 14 (lowered (take (header_len d) d))) (behind_both f adjacency.mac.0 interface.mac.0 six six2 sound)

-- what the rewrite of a packet rests on
pub record IsRewritable (adjacency : Adjacency) (interface : Interface) (p : Packet) : Type 0 where
  pub neighbor : IsMac adjacency.mac
  pub own : IsMac interface.mac
  pub possible : IsPacket p
  pub checked : p.checked ≡ true
  pub alive : time_to_live (datagram p) ≢ 1

-- the packet passes the checks as it comes
pub sound_of : (adjacency : Adjacency) (interface : Interface) (p : Packet) → IsRewritable adjacency interface p → header_fault (drop 14 p.bytes) ≡ None
sound_of adjacency interface p is = is.possible.sound is.checked

-- the bytes after both addresses are written
pub both_written : (adjacency : Adjacency) (interface : Interface) (b first second : Contents)
    → first ≡ record b { packet = written b.packet 0 adjacency.mac.0 } → second ≡ record first { packet = written first.packet 6 interface.mac.0 }
    → second.packet.bytes ≡ overwritten (overwritten b.packet.bytes 0 adjacency.mac.0) 6 interface.mac.0
both_written adjacency interface b first second e e2 =
    ap (λ c. c.packet.bytes) e2 ∙ ap (λ c. overwritten c.packet.bytes 6 interface.mac.0) e

-- the checks pass after the first address is written
pub first_passes : (adjacency : Adjacency) (interface : Interface) (p : Packet) → IsRewritable adjacency interface p → header_fault (drop 14 (overwritten p.bytes 0 adjacency.mac.0)) ≡ None
first_passes adjacency interface p is =
    let sound = sound_of adjacency interface p is in
    ap header_fault (behind_first p.bytes adjacency.mac.0 is.neighbor.six sound) ∙ sound

-- and after both
pub both_pass : (adjacency : Adjacency) (interface : Interface) (p : Packet) → IsRewritable adjacency interface p
    → header_fault (drop 14 (overwritten (overwritten p.bytes 0 adjacency.mac.0) 6 interface.mac.0)) ≡ None
both_pass adjacency interface p is =
    let sound = sound_of adjacency interface p is in
    ap header_fault (behind_both p.bytes adjacency.mac.0 interface.mac.0 is.neighbor.six is.own.six sound) ∙ sound

-- and after the header is lowered
pub lowered_passes : (adjacency : Adjacency) (interface : Interface) (p : Packet) → IsRewritable adjacency interface p
    → header_fault (drop 14 (with_lowered (overwritten (overwritten p.bytes 0 adjacency.mac.0) 6 interface.mac.0))) ≡ None
lowered_passes adjacency interface p is =
    let sound = sound_of adjacency interface p is in
    ap (λ f. header_fault (drop 14 f)) (rewritten_in_parts adjacency interface p.bytes is.neighbor.six is.own.six sound)
    ∙ (rewritten_is adjacency interface p.bytes is.neighbor is.own is.possible.bytes sound (ne_eqb (time_to_live (drop 14 p.bytes)) 1 is.alive)).fault

-- the buffer after the three writes
pub rewritten_at_last : (adjacency : Adjacency) (interface : Interface) (b first second last : Contents) → IsRewritable adjacency interface b.packet
    → first ≡ record b { packet = written b.packet 0 adjacency.mac.0 } → second ≡ record first { packet = written first.packet 6 interface.mac.0 }
    → last ≡ record second { packet = record second.packet { bytes = with_lowered second.packet.bytes } }
    → last ≡ record b { packet = record b.packet { bytes = rewritten adjacency interface b.packet.bytes } }
rewritten_at_last adjacency interface b first second last is e e2 e3 =
    let put : List ℕ → Contents = λ bytes. record b { packet = record b.packet { bytes = bytes } } in
    let lower : Contents → Contents = λ c. record c { packet = record c.packet { bytes = with_lowered c.packet.bytes } } in
    let over_second : Contents → Contents = λ c. record c { packet = written c.packet 6 interface.mac.0 } in
    let both : second ≡ put (overwritten (overwritten b.packet.bytes 0 adjacency.mac.0) 6 interface.mac.0) =
    e2 ∙ ap over_second e in
    e3 ∙ (ap lower both ∙ ap put (rewritten_in_parts adjacency interface b.packet.bytes is.neighbor.six is.own.six (sound_of adjacency interface b.packet is)))

-- bytes that are written within a part
overwritten_within : (a h b w : List ℕ) (k : ℕ) → k + length w ≤ length h → overwritten (a ++ (h ++ b)) (length a + k) w ≡ a ++ (overwritten h k w ++ b)
overwritten_within a h b w k fits =
    let front : take (length a + k) (a ++ (h ++ b)) ≡ a ++ take k h = take-append-add a (h ++ b) k ∙ ap (λ x. a ++ x) (take-append-le k h b (omega (arith, fits))) in
    let past : length a + k + length w ≡ length a + (k + length w) = omega arith in
    let back : drop (length a + k + length w) (a ++ (h ++ b)) ≡ drop (k + length w) h ++ b =
    ap (λ n. drop n (a ++ (h ++ b))) past ∙ drop-append-add a (h ++ b) (k + length w) ∙ drop-append-le (k + length w) h b fits in
    ap (λ x. (x ++ w) ++ drop (length a + k + length w) (a ++ (h ++ b))) front ∙ ap (λ x. ((a ++ take k h) ++ w) ++ x) back ∙ joined a (take k h) w (drop (k + length w) h) b
  where
    joined : (a f w d b : List ℕ) → ((a ++ f) ++ w) ++ (d ++ b) ≡ a ++ (((f ++ w) ++ d) ++ b)
    joined a f w d b = simp append_assoc

-- the header is lowered by writing the bytes of it that change
pub lowered_in_place : (f w : List ℕ) → header_fault (drop 14 f) ≡ None → length w ≡ 4
    → overwritten (take (header_len (drop 14 f)) (drop 14 f)) 8 w ≡ lowered (take (header_len (drop 14 f)) (drop 14 f)) → overwritten f 22 w ≡ with_lowered f
lowered_in_place f w sound four is =
    let passes : Passes (drop 14 f) = passes_of (drop 14 f) sound in
    let n = header_len (drop 14 f) in
    let a : List ℕ = take 14 f in
    let h : List ℕ = take n (drop 14 f) in
    let b : List ℕ = drop n (drop 14 f) in
    let long = long_enough f sound in
    let size_a : length a ≡ 14 = length-take-le 14 f (omega (arith, long)) in
    let size_h : length h ≡ n = length-take-le n (drop 14 f) passes.inside in
    let parts : a ++ (h ++ b) ≡ f = ap (λ d. a ++ d) (take-append-drop n (drop 14 f)) ∙ take-append-drop 14 f in
    let fits : 8 + length w ≤ length h = omega (arith, four, size_h, passes.header) in
    let low : length (lowered h) ≡ n = ap length (sym is) ∙ length-overwritten h 8 w fits ∙ size_h in
    let at : length a + 8 ≡ 22 = omega (arith, size_a) in
    let rest : drop (14 + length (lowered h)) f ≡ b = ap (λ k. drop (14 + k) f) low ∙ sym (drop-drop n 14 f) in
    ap (λ xs. overwritten xs 22 w) (sym parts) ∙ ap (λ k. overwritten (a ++ (h ++ b)) k w) (sym at) ∙ overwritten_within a h b w 8 fits
    ∙ ap (λ x. a ++ (x ++ b)) is ∙ sym (append_assoc a (lowered h) b) ∙ ap (λ x. (a ++ lowered h) ++ x) (sym rest)

-- the part of a packet in its first buffer is as long after bytes are written
pub as_long : (p : Packet) (at : ℕ) (w : List ℕ) → at + length w ≤ length p.bytes → length (head_of (written p at w)) ≡ length (head_of p)
as_long p at w fits =
    length-take (2112 - p.room) (overwritten p.bytes at w) ∙ ap (min (2112 - p.room)) (length-overwritten p.bytes at w fits) ∙ sym (length-take (2112 - p.room) p.bytes)

-- which has no more bytes than the packet
pub head_within : (p : Packet) → length (head_of p) ≤ length p.bytes
head_within p = let size : length (head_of p) ≡ min (2112 - p.room) (length p.bytes) = length-take (2112 - p.room) p.bytes in omega (arith, size)
