-- For `laws::parts_are_the_packet` and `Buffer::copy_pieces`: the parts of a packet, joined.
use Rattle.std.proofs.Common.{◌≡◌, ℕ, zero, suc, ◌+◌, ◌-◌, ◌*◌, ◌≤◌, List, ◌++◌, length, take, drop, sym, ap, subst, ◌∙◌, arith, length-drop}
use Rattle.std.proofs.lemmas.List.{take-append-drop, take-take, take_all, drop-take, drop-drop, length-take}
use Rattle.std.specs.Prelude.{min}
use Rattle.vg_model.specs.Packet.{Packet}
use Rattle.vg_pool.specs.Contents.{Contents, AreContents, part, begins}
use Rattle.vg_pool.specs.Laws.{parts_from, PartsAreThePacket}

-- so many bytes and so many behind them
take_then : (a b : ℕ) (xs : List ℕ) → take a xs ++ take b (drop a xs) ≡ take (a + b) xs
take_then a b xs =
    ap (λ z. z ++ take b (drop a xs)) (sym (take-take a (a + b) xs (omega arith)))
    ∙ ap (λ z. take a (take (a + b) xs) ++ z) (sym (drop-take a b xs))
    ∙ take-append-drop a (take (a + b) xs)

-- a part begins no later than the next, and so than any further one
later : (room : ℕ) → room ≤ 128 → (k : ℕ) → begins room k ≤ begins room (suc k)
later room small zero = omega arith
later room small (suc k) = omega (arith, small)

far : (room : ℕ) → room ≤ 128 → (n k e : ℕ) → n + k ≡ e → begins room k ≤ begins room e
far room small zero k e is = let same : k ≡ e = omega (arith, is) in subst (λ j. begins room k ≤ begins room j) same (omega arith)
far room small (suc n) k e is =
    let next = later room small k in
    let rest = far room small n (suc k) e (omega (arith, is)) in
    omega (arith, next, rest)

-- the parts from one on are the bytes from its place on
from : (p : Packet) → p.room ≤ 128 → (n k e : ℕ) → n + k ≡ e → parts_from p k n ≡ take (begins p.room e - begins p.room k) (drop (begins p.room k) p.bytes)
from p small zero k e is =
    let same : e ≡ k = omega (arith, is) in
    let none : begins p.room k - begins p.room k ≡ 0 = omega arith in
    sym (ap (λ j. take (begins p.room j - begins p.room k) (drop (begins p.room k) p.bytes)) same ∙ ap (λ j. take j (drop (begins p.room k) p.bytes)) none)
from p small (suc n) k e is =
    let a : ℕ = begins p.room k in
    let b : ℕ = begins p.room (suc k) in
    let z : ℕ = begins p.room e in
    let next : a ≤ b = later p.room small k in
    let rest : b ≤ z = far p.room small n (suc k) e (omega (arith, is)) in
    let place : a + (b - a) ≡ b = omega (arith, next) in
    let size : b - a + (z - b) ≡ z - a = omega (arith, next, rest) in
    ap (λ r. part p k ++ r) (from p small n (suc k) e (omega (arith, is)))
    ∙ ap (λ d. take (b - a) (drop a p.bytes) ++ take (z - b) d) (sym (drop-drop (b - a) a p.bytes ∙ ap (λ j. drop j p.bytes) place))
    ∙ take_then (b - a) (z - b) (drop a p.bytes)
    ∙ ap (λ j. take j (drop a p.bytes)) size

-- the last part ends no earlier than the packet
reach : (room n len : ℕ) → 1 ≤ n → len + room ≤ 64 + 2048 * n → len ≤ begins room n
reach room zero len some fits = absurd (omega (arith, some))
reach room (suc n) len some fits = omega (arith, fits)

pub parts_joined : PartsAreThePacket
parts_joined c are =
    let p : Packet = c.packet in
    let whole = reach p.room c.pieces (length p.bytes) are.some are.fits in
    from p are.room c.pieces 0 c.pieces (omega arith) ∙ take_all (begins p.room c.pieces - 0) p.bytes (omega (arith, whole))

-- the parts before one, and that one
pub parts_more : (p : Packet) → p.room ≤ 128 → (k : ℕ) → take (begins p.room k) p.bytes ++ part p k ≡ take (begins p.room (suc k)) p.bytes
parts_more p small k =
    let next = later p.room small k in
    let end : begins p.room k + (begins p.room (suc k) - begins p.room k) ≡ begins p.room (suc k) = omega (arith, next) in
    take_then (begins p.room k) (begins p.room (suc k) - begins p.room k) p.bytes ∙ ap (λ j. take j p.bytes) end

-- together they have no more bytes than the packet
pub parts_fit : (p : Packet) → p.room ≤ 128 → (k : ℕ) → length (take (begins p.room k) p.bytes) + length (part p k) ≤ length p.bytes
parts_fit p small k =
    let a : ℕ = begins p.room k in
    let b : ℕ = begins p.room (suc k) in
    let front : length (take a p.bytes) ≡ min a (length p.bytes) = length-take a p.bytes in
    let back : length (take (b - a) (drop a p.bytes)) ≡ min (b - a) (length (drop a p.bytes)) = length-take (b - a) (drop a p.bytes) in
    let rest : length (drop a p.bytes) ≡ length p.bytes - a = length-drop a p.bytes in
    omega (arith, front, back, rest)

-- and all of them are the packet
pub parts_all : (c : Contents) → AreContents c → take (begins c.packet.room c.pieces) c.packet.bytes ≡ c.packet.bytes
parts_all c are = take_all (begins c.packet.room c.pieces) c.packet.bytes (reach c.packet.room c.pieces (length c.packet.bytes) are.some are.fits)
