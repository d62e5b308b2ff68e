-- For the clause of `Capture::time`, and for `Plan::limit` and `limits_are_fronts` of vg_plan: capture time.
use Rattle.std.proofs.Common.{◌≡◌, ℕ, zero, suc, ◌-◌, ◌≤◌, Some, sym, ap, ◌∙◌, arith}
use Rattle.vg_capture.specs.declared.captures.Capture.{Capture}
use Rattle.std.specs.Prelude.{slice_get, option_map, unwrap_or, max}
use Rattle.vg_capture.specs.Time.{stamp, stamp_at, latest, time}

-- the first packet's time is 0
pub time-zero : (capture : Capture) → time capture 0 ≡ 0
time-zero capture = omega arith

-- times never fall
pub time-le-suc : (capture : Capture) (i : ℕ) → time capture i ≤ time capture (suc i)
time-le-suc capture i = let n = latest capture i in let m = stamp_at capture (suc i) in omega arith

-- no time stamp is later than the latest so far: the first packet's isn't
pub latest-ge-first : (capture : Capture) (i : ℕ) → stamp_at capture 0 ≤ latest capture i
latest-ge-first capture zero = omega arith
latest-ge-first capture (suc i) =
    let before : stamp_at capture 0 ≤ latest capture i = latest-ge-first capture i in
    let rises : latest capture i ≤ latest capture (suc i) = let n = latest capture i in let m = stamp_at capture (suc i) in omega arith in
    omega arith

-- the time stamp of a packet that was read
pub stamp_read : (capture : Capture) (i read : ℕ) → option_map (stamp capture.nanos) (slice_get capture.packets i) ≡ Some read → stamp_at capture i ≡ read
stamp_read capture i read e = ap (λ o. unwrap_or o 0) e

-- the latest time stamp, with one more
pub latest_more : (capture : Capture) (i read : ℕ) → 1 ≤ i → option_map (stamp capture.nanos) (slice_get capture.packets i) ≡ Some read
    → latest capture i ≡ max (latest capture (i - 1)) read
latest_more capture zero read h e = absurd (omega (arith, h))
latest_more capture (suc i) read h e =
    let before : suc i - 1 ≡ i = omega arith in
    ap (λ s. max (latest capture i) s) (stamp_read capture (suc i) read e) ∙ ap (λ k. max (latest capture k) read) (sym before)
