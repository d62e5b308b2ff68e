-- For the clauses of `own_of`, `total_bytes` and `Work::draw_own`: the packets of a worker, in order.
use Rattle.std.proofs.Common.{◌≡◌, ℕ, zero, suc, ◌+◌, ◌-◌, ◌<◌, ◌≤◌, List, [], ◌∷◌, ◌++◌, length, get_or, take, drop, drop-cons, add-one, refl, sym, ap, ◌∙◌, arith}
use Rattle.std.specs.Prelude.{Some, option_map, slice_get}
use Rattle.std.proofs.lemmas.Option.{slice_get-get_or}
use Rattle.std.proofs.lemmas.List.{drop-drop, get_or_default, take_all}
use Rattle.std.proofs.lemmas.List.Sums.{sum_by-append, sum_by-cons, sum_by-take-drop, sum_by_more}
use Rattle.vg_model.specs.Packet.{first_room}
use Rattle.vg_capture.specs.declared.captures.Captured.{Captured}
use Rattle.vg_journeys.specs.Trips.{Arrival, Drawn}
use Rattle.vg_journeys.specs.Windows.{next_draws, mark_behind, AreThere}
use Rattle.vg_underway.specs.OwnPackets.{every, own_from, received_extent, captured_extent, frames_of}
use Rattle.vg_underway.specs.Draws.{AreBelow}
use Rattle.vg_underway.proofs.PeerLemmas.{map_at}

every_skip : {X : Type 0} (workers skip : ℕ) (xs : List X) → every workers skip xs ≡ every workers 0 (drop skip xs)
every_skip workers zero xs = refl
every_skip workers (suc k) [] = refl
every_skip workers (suc k) (x ∷ xs) = every_skip workers k xs

-- the first of them, and those behind it
pub own_first : {X : Type 0} (workers mark : ℕ) (xs : List X) (d : X) → 0 < workers → mark < length xs → own_from workers mark xs ≡ get_or xs mark d ∷ own_from workers (mark + workers) xs
own_first workers mark xs d some inside =
    ap (every workers 0) (drop-cons xs mark d inside)
    ∙ ap (λ ys. get_or xs mark d ∷ ys) (every_skip workers (workers - 1) (drop (suc mark) xs) ∙ ap (every workers 0) (drop-drop (workers - 1) (suc mark) xs ∙ ap (λ k. drop k xs) (omega (arith, some))))

pub own_fewer : {X : Type 0} (workers skip : ℕ) (xs : List X) → length (every workers skip xs) ≤ length xs
own_fewer workers skip [] = omega arith
own_fewer workers zero (x ∷ xs) = let rest = own_fewer workers (workers - 1) xs in omega (arith, rest)
own_fewer workers (suc k) (x ∷ xs) = let rest = own_fewer workers k xs in omega (arith, rest)

pub own_lighter : (workers skip : ℕ) (xs : List Captured) → captured_extent (every workers skip xs) ≤ captured_extent xs
own_lighter workers skip [] = omega arith
own_lighter workers zero (x ∷ xs) =
    let rest = own_lighter workers (workers - 1) xs in
    omega (arith, rest, sum_by-cons received_extent x xs, sum_by-cons received_extent x (every workers (workers - 1) xs))
own_lighter workers (suc k) (x ∷ xs) = let rest = own_lighter workers k xs in omega (arith, rest, sum_by-cons received_extent x xs)

-- one more of a list
pub take_next : {X : Type 0} (k : ℕ) (xs : List X) (y : X) (ys : List X) → drop k xs ≡ y ∷ ys → take (suc k) xs ≡ take k xs ++ y ∷ []
take_next zero [] y ys e = absurd (let n : 0 ≡ suc (length ys) = ap length e in omega (arith, n))
take_next zero (x ∷ xs) y ys e = cc
take_next (suc k) [] y ys e = absurd (let n : 0 ≡ suc (length ys) = ap length e in omega (arith, n))
take_next (suc k) (x ∷ xs) y ys e = ap (λ zs. x ∷ zs) (take_next k xs y ys e)

pub drop_next : {X : Type 0} (k : ℕ) (xs : List X) (y : X) (ys : List X) → drop k xs ≡ y ∷ ys → drop (suc k) xs ≡ ys
drop_next zero [] y ys e = absurd (let n : 0 ≡ suc (length ys) = ap length e in omega (arith, n))
drop_next zero (x ∷ xs) y ys e = cc
drop_next (suc k) [] y ys e = absurd (let n : 0 ≡ suc (length ys) = ap length e in omega (arith, n))
drop_next (suc k) (x ∷ xs) y ys e = drop_next k xs y ys e

-- one packet more is drawn
pub behind_more : (workers mark k : ℕ) → mark_behind workers mark (suc k) ≡ mark_behind workers mark k + workers
behind_more workers mark zero = refl
behind_more workers mark (suc k) = behind_more workers (mark + workers) k

pub draws_more : (workers mark k : ℕ) (packets : List (List ℕ)) → next_draws workers mark (suc k) packets ≡ next_draws workers mark k packets ++ Drawn (mark_behind workers mark k) (get_or packets (mark_behind workers mark k) []) ∷ []
draws_more workers mark zero packets = refl
draws_more workers mark (suc k) packets = ap (λ es. Drawn mark (get_or packets mark []) ∷ es) (draws_more workers (mark + workers) k packets)

pub below_more : (workers mark limit k : ℕ) → AreBelow workers mark limit k → mark_behind workers mark k < limit → AreBelow workers mark limit (suc k)
below_more workers mark limit zero all one = (one, tt)
below_more workers mark limit (suc k) all one = (all.0, below_more workers (mark + workers) limit k all.1 one)

pub below_each : (workers mark limit count k : ℕ) → AreBelow workers mark limit count → k < count → mark_behind workers mark k < limit
below_each workers mark limit zero k all h = absurd (omega (arith, h))
below_each workers mark limit (suc count) zero all h = all.0
below_each workers mark limit (suc count) (suc k) all h = below_each workers (mark + workers) limit count k all.1 (omega (arith, h))

pub below_there : (workers mark limit count : ℕ) (packets : List (List ℕ)) → limit ≤ length packets → AreBelow workers mark limit count → AreThere workers mark count packets
below_there workers mark limit zero packets within all = tt
below_there workers mark limit (suc count) packets within all = (let h = all.0 in omega (arith, h, within), below_there workers (mark + workers) limit count packets within all.1)

-- the next packet that is drawn
pub next_drawn : (workers mark count number : ℕ) (packets : List Captured) (elem : Captured) (bytes : List ℕ) → number ≡ mark_behind workers mark count → number < length packets → elem ≡ get_or packets number elem → bytes ≡ elem.bytes
    → next_draws workers mark (count + 1) (frames_of packets) ≡ next_draws workers mark count (frames_of packets) ++ Drawn number bytes ∷ []
next_drawn workers mark count number packets elem bytes is inside at bytes_are =
    let there : get_or (frames_of packets) number [] ≡ elem.bytes = map_at (λ (c : Captured). c.bytes) packets number elem [] inside at in
    let one : ℕ → List ℕ → List Arrival = λ n bs. next_draws workers mark count (frames_of packets) ++ Drawn n bs ∷ [] in
    ap (λ n. next_draws workers mark n (frames_of packets)) (add-one count) ∙ draws_more workers mark count (frames_of packets)
    ∙ ap (λ n. one n (get_or (frames_of packets) n [])) (sym is) ∙ ap (one number) (there ∙ sym bytes_are)

pub record IsOwnStep (workers mark count number : ℕ) (packets : List Captured) (elem : Captured) : Type 0 where
  pub own : own_from workers (number + workers) packets ≡ drop (count + 1) (own_from workers mark packets)
  pub bytes : captured_extent (take (count + 1) (own_from workers mark packets)) ≡ captured_extent (take count (own_from workers mark packets)) + received_extent elem
  pub most : captured_extent (take (count + 1) (own_from workers mark packets)) ≤ captured_extent packets

pub own_step : (workers mark count number : ℕ) (packets : List Captured) (elem : Captured) → 0 < workers → number < length packets → elem ≡ get_or packets number elem → own_from workers number packets ≡ drop count (own_from workers mark packets)
    → IsOwnStep workers mark count number packets elem
own_step workers mark count number packets elem some inside at so_far =
    let first = own_first workers number packets elem some inside in
    let split : drop count (own_from workers mark packets) ≡ elem ∷ own_from workers (number + workers) packets = sym so_far ∙ first ∙ ap (λ x. x ∷ own_from workers (number + workers) packets) (sym at) in
    let more = ap (λ n. take n (own_from workers mark packets)) (add-one count) ∙ take_next count (own_from workers mark packets) elem (own_from workers (number + workers) packets) split in
    let weight : Captured → ℕ = received_extent in
    let sum = ap captured_extent more in
    let both = sum_by-append weight (take count (own_from workers mark packets)) (elem ∷ []) in
    let last = sum_by-cons weight elem [] in
    let front = sum_by-take-drop weight (own_from workers mark packets) (count + 1) in
    let light = own_lighter workers 0 (drop mark packets) in
    let behind = sum_by-take-drop weight packets mark in
    record {
      own = sym (ap (λ n. drop n (own_from workers mark packets)) (add-one count) ∙ drop_next count (own_from workers mark packets) elem (own_from workers (number + workers) packets) split);
      bytes = omega (arith, sum, both, last);
      most = omega (arith, front, light, behind);
    }

-- an element of a list
abbrev pub get_elem : {X : Type 0} → List X → ℕ → X → X
get_elem xs k d = get_or xs k d

-- a packet, by the bytes that were read at its place
pub captured_there : (packets : List Captured) (k : ℕ) (bytes : List ℕ) → k < length packets
    → option_map (λ (packet : Captured). packet.bytes) (slice_get packets k) ≡ Some bytes → (captured : Captured) × (captured ≡ get_or packets k captured) × (bytes ≡ captured.bytes)
captured_there packets k bytes inside read =
    let none : Captured = record { seconds = 0; fraction = 0; original = 0; bytes = [] } in
    let captured : Captured = get_or packets k none in
    let found : option_map (λ (packet : Captured). packet.bytes) (slice_get packets k) ≡ Some captured.bytes =
    ap (option_map (λ (packet : Captured). packet.bytes)) (slice_get-get_or packets k none inside) in
    let same : Some bytes ≡ Some captured.bytes = sym read ∙ found in
    (captured, get_or_default packets k none captured inside, (let e : bytes ≡ captured.bytes = cc in e))

-- one packet more
pub bytes_more : (k total : ℕ) (packets : List Captured) (captured : Captured) (bytes : List ℕ) → k < length packets → captured ≡ get_or packets k captured → bytes ≡ captured.bytes
    → total ≡ captured_extent (take k packets) → total + (length bytes + first_room) ≡ captured_extent (take (k + 1) packets)
bytes_more k total packets captured bytes inside at is so_far =
    let more = sum_by_more received_extent packets k captured inside in
    let here = ap received_extent at in
    let size = ap length is in
    omega (arith, more, here, size, so_far)

-- all of them
pub bytes_all : (k : ℕ) (packets : List Captured) → length packets ≤ k → captured_extent (take k packets) ≡ captured_extent packets
bytes_all k packets past = ap captured_extent (take_all k packets past)
