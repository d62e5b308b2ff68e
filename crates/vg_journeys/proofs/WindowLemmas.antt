-- For `laws::what_came_grows` and `laws::packets_begin_in_their_window`: what a turn draws and takes.
use Rattle.std.proofs.Common.{◌≡◌, ℕ, zero, suc, ◌+◌, ◌-◌, ◌*◌, ◌/◌, ◌%◌, ◌<◌, ◌≤◌, ◌⊎◌, inl, inr, Bool, true, false, List, [], ◌∷◌, length, get_or, refl, sym, ap, ◌∙◌, arith}
use Rattle.std.specs.Prelude.{◌==◌, ◌&&◌, nat_lt, if◌then◌else◌}
use Rattle.std.specs.List.{sum_by}
use Rattle.std.proofs.lemmas.Bool.{eq-eqb, lt-ltb, ltb-true, ltb-false, eqb-true}
use Rattle.std.proofs.lemmas.List.Sums.{sum_by-cons, sum_by-append}
use Rattle.std.proofs.lemmas.Grind.{flat_map-append}
use Rattle.std.proofs.Math.Nat.{div-add-mod, add-mod_right}
use Rattle.vg_journeys.specs.Trips.{Run, Arrival, Drawn}
use Rattle.vg_journeys.specs.Accounts.{HandoffFrame, Account, frames_with, frame_arrivals, arrivals_in, draws_from, below, came}
use Rattle.vg_journeys.specs.Windows.{next_draws, mark_behind, AreThere, Comes, AreLimits}
use Rattle.vg_journeys.proofs.FlowLemmas.{sum_same, true_or_false}
use Rattle.vg_journeys.proofs.JoinLemmas.{sum_both}

at_most_or_more : (x y : ℕ) → (x ≤ y) ⊎ (y < x)
at_most_or_more x y = by (true_or_false (nat_lt y x))
  where
    by : (nat_lt y x ≡ true) ⊎ (nat_lt y x ≡ false) → (x ≤ y) ⊎ (y < x)
    by (inl is) = inr (ltb-true y x is)
    by (inr is) = inl (ltb-false y x is)

-- numbers of one worker are as many apart as there are workers
apart : (m a b : ℕ) → a < m → (b + a) % m ≡ b % m → a ≡ 0
apart m a b h e =
    let one = div-add-mod (b + a) m in
    let two = div-add-mod b m in
    by (at_most_or_more ((b + a) / m) (b / m)) one two
  where
    by : ((b + a) / m ≤ b / m) ⊎ (b / m < (b + a) / m) → m * ((b + a) / m) + (b + a) % m ≡ b + a → m * (b / m) + b % m ≡ b → a ≡ 0
    by (inl low) one two =
        let d : ℕ = b / m - (b + a) / m in
        let q : b / m ≡ (b + a) / m + d = omega (arith, low) in
        let more : m * (b / m) ≡ m * ((b + a) / m) + m * d = ap (λ n. m * n) q ∙ grind arith in
        omega (arith, one, two, more, e)
    by (inr high) one two =
        let d : ℕ = (b + a) / m - suc (b / m) in
        let q : (b + a) / m ≡ b / m + suc d = omega (arith, high) in
        let more : m * ((b + a) / m) ≡ m * (b / m) + m + m * d = ap (λ n. m * n) q ∙ grind arith in
        absurd (omega (arith, one, two, more, e, h))

-- where no number is its own and below the mark, a worker has drawn nothing
no_draws : (number workers worker mark : ℕ) (packets : List (List ℕ)) → ((n : ℕ) → number ≤ n → n % workers ≡ worker → n < mark → ⊥) → draws_from number workers worker mark packets ≡ []
no_draws number workers worker mark [] none = refl
no_draws number workers worker mark (bytes ∷ packets) none =
    ap (λ (b : Bool). if b then Drawn number bytes ∷ draws_from (number + 1) workers worker mark packets else draws_from (number + 1) workers worker mark packets)
    (by (true_or_false (number % workers == worker)) (true_or_false (nat_lt number mark)))
    ∙ no_draws (number + 1) workers worker mark packets (λ n h. none n (omega (arith, h)))
  where
    by : (number % workers == worker ≡ true) ⊎ (number % workers == worker ≡ false) → (nat_lt number mark ≡ true) ⊎ (nat_lt number mark ≡ false) → (number % workers == worker && nat_lt number mark) ≡ false
    by (inl own) (inl low) = absurd (none number (omega arith) (eqb-true (number % workers) worker own) (ltb-true number mark low))
    by (inl own) (inr high) = rw (own, high) refl
    by (inr other) l = rw other refl

-- one packet more is drawn
one_more_draw : (number workers worker mark place : ℕ) (count : Arrival → ℕ) (packets : List (List ℕ)) → number + place ≡ mark → place < length packets → mark % workers ≡ worker → 0 < workers
    → sum_by count (draws_from number workers worker (mark + workers) packets) ≡ sum_by count (draws_from number workers worker mark packets) + count (Drawn mark (get_or packets place []))
one_more_draw number workers worker mark place count [] at h own some = absurd (omega (arith, h))
one_more_draw number workers worker mark zero count (bytes ∷ packets) at h own some =
    let here : number ≡ mark = omega (arith, at) in
    let before : draws_from number workers worker mark (bytes ∷ packets) ≡ [] = no_draws number workers worker mark (bytes ∷ packets) (λ n l o m. omega (arith, l, m, here)) in
    let behind : draws_from (number + 1) workers worker (mark + workers) packets ≡ [] =
    no_draws (number + 1) workers worker (mark + workers) packets
    (λ n l o m.
    let a : ℕ = n - mark in
    let split : n ≡ mark + a = omega (arith, l, here) in
    let zero_apart = apart workers a mark (omega (arith, m, split)) (ap (λ k. k % workers) (sym split) ∙ o ∙ sym own) in
    omega (arith, zero_apart, l, here)) in
    let cond : (number % workers == worker && nat_lt number (mark + workers)) ≡ true =
    rw (eq-eqb (number % workers) worker (ap (λ k. k % workers) here ∙ own), lt-ltb number (mark + workers) (omega (arith, here, some))) refl in
    let first : draws_from number workers worker (mark + workers) (bytes ∷ packets) ≡ Drawn number bytes ∷ [] =
    ap (λ (b : Bool). if b then Drawn number bytes ∷ draws_from (number + 1) workers worker (mark + workers) packets else draws_from (number + 1) workers worker (mark + workers) packets)
    cond ∙ ap (λ l. Drawn number bytes ∷ l) behind in
    let one = ap (sum_by count) first in
    let two = ap (sum_by count) before in
    let same = ap (λ n. count (Drawn n bytes)) here in
    omega (arith, one, two, same, sum_by-cons count (Drawn number bytes) [])
one_more_draw number workers worker mark (suc place) count (bytes ∷ packets) at h own some =
    let rest = one_more_draw (number + 1) workers worker mark place count packets (omega (arith, at)) (omega (arith, h)) own some in
    let low = lt-ltb number mark (omega (arith, at)) in
    let lower = lt-ltb number (mark + workers) (omega (arith, at)) in
    by (number % workers == worker) (nat_lt number mark) (nat_lt number (mark + workers)) low lower rest
  where
    by : (b c d : Bool) → c ≡ true → d ≡ true
        → sum_by count (draws_from (number + 1) workers worker (mark + workers) packets) ≡ sum_by count (draws_from (number + 1) workers worker mark packets) + count (Drawn mark (get_or packets place []))
        → sum_by count (if b && d then Drawn number bytes ∷ draws_from (number + 1) workers worker (mark + workers) packets else draws_from (number + 1) workers worker (mark + workers) packets)
        ≡ sum_by count (if b && c then Drawn number bytes ∷ draws_from (number + 1) workers worker mark packets else draws_from (number + 1) workers worker mark packets) + count (Drawn mark (get_or packets place []))
    by true true true e f rest =
        omega (arith, rest, sum_by-cons count (Drawn number bytes) (draws_from (number + 1) workers worker (mark + workers) packets), sum_by-cons count (Drawn number bytes) (draws_from (number + 1) workers worker mark packets))
    by false true true e f rest = rest
    by b false d e f rest = absurd (let k : false ≡ true = e in cc)
    by b true false e f rest = absurd (let k : false ≡ true = f in cc)

-- so many packets more are drawn
more_draws : (workers worker mark many : ℕ) (count : Arrival → ℕ) (packets : List (List ℕ)) → AreThere workers mark many packets → mark % workers ≡ worker → 0 < workers
    → sum_by count (draws_from 0 workers worker (mark_behind workers mark many) packets) ≡ sum_by count (draws_from 0 workers worker mark packets) + sum_by count (next_draws workers mark many packets)
more_draws workers worker mark zero count packets there own some = omega arith
more_draws workers worker mark (suc many) count packets there own some =
    let one = one_more_draw 0 workers worker mark mark count packets (omega arith) there.0 own some in
    let rest = more_draws workers worker (mark + workers) many count packets there.1 (add-mod_right mark workers ∙ own) some in
    omega (arith, one, rest, sum_by-cons count (Drawn mark (get_or packets mark [])) (next_draws workers (mark + workers) many packets))

-- what came to a worker grows by what comes in a turn
pub came_more : (run : Run) (old new : Account) (many : ℕ) (took : ℕ → List HandoffFrame) (count : Arrival → ℕ) → 0 < run.workers → old.mark % run.workers ≡ old.worker → Comes run old new many took
    → came run count old + (sum_by count (next_draws run.workers old.mark many run.packets) + sum_by (λ from. sum_by count (arrivals_in old.worker (took from))) (below run.workers)) ≡ came run count new
came_more run old new many took count some own comes =
    let ws : List ℕ = below run.workers in
    let draws = more_draws run.workers old.worker old.mark many count run.packets comes.there own some in
    let moved : sum_by count (draws_from 0 run.workers new.worker new.mark run.packets) ≡ sum_by count (draws_from 0 run.workers old.worker (mark_behind run.workers old.mark many) run.packets) =
    ap (λ w. sum_by count (draws_from 0 run.workers w new.mark run.packets)) comes.same_worker ∙ ap (λ m. sum_by count (draws_from 0 run.workers old.worker m run.packets)) comes.mark in
    let taken : sum_by (λ from. sum_by count (arrivals_in new.worker (frames_with from new.taken))) ws
    ≡ sum_by (λ from. sum_by count (arrivals_in old.worker (frames_with from old.taken)) + sum_by count (arrivals_in old.worker (took from))) ws =
    ap (λ w. sum_by (λ from. sum_by count (arrivals_in w (frames_with from new.taken))) ws) comes.same_worker
    ∙ sum_same (λ from. sum_by count (arrivals_in old.worker (frames_with from new.taken)))
    (λ from. sum_by count (arrivals_in old.worker (frames_with from old.taken)) + sum_by count (arrivals_in old.worker (took from)))
    (λ from. ap (λ frames. sum_by count (arrivals_in old.worker frames)) (comes.taken from) ∙ ap (sum_by count) (flat_map-append (frame_arrivals old.worker) (frames_with from old.taken) (took from))
    ∙ sum_by-append count (arrivals_in old.worker (frames_with from old.taken)) (arrivals_in old.worker (took from))) ws in
    let both = sum_both (λ from. sum_by count (arrivals_in old.worker (frames_with from old.taken))) (λ from. sum_by count (arrivals_in old.worker (took from))) ws in
    omega (arith, draws, moved, taken, both)

-- a packet below the limit of a generation, and not below that of the one before, begins in this generation
pub begins_now : (first limit : ℕ → ℕ) (packets generation i : ℕ) → AreLimits first limit packets → i < packets → i < limit generation
    → ((earlier : ℕ) → suc earlier ≡ generation → limit earlier ≤ i) → first i ≡ generation
begins_now first limit packets zero i are h low before = let k : first i ≤ 0 = (are 0 i h).1 low in omega (arith, k)
begins_now first limit packets (suc earlier) i are h low before =
    let k : first i ≤ suc earlier = (are (suc earlier) i h).1 low in
    let past : limit earlier ≤ i = before earlier refl in
    by (at_most_or_more (first i) earlier) k past
  where
    by : (first i ≤ earlier) ⊎ (earlier < first i) → first i ≤ suc earlier → limit earlier ≤ i → first i ≡ suc earlier
    by (inl early) k past = absurd (let l : i < limit earlier = (are earlier i h).0 early in omega (arith, l, past))
    by (inr late) k past = omega (arith, late, k)
