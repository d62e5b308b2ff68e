-- For `Clock::time`: the greatest time stamp of one packet more.
use Rattle.std.proofs.Common.{◌≡◌, ℕ, zero, suc, ◌+◌, max, refl, sym, ap, ◌∙◌, add-one, arith}
use Rattle.vg_capture.specs.declared.captures.Capture.{Capture}
use Rattle.vg_capture.specs.Time.{stamp_at, latest}
use Rattle.vg_ways.specs.Clocks.{latest_before}

-- of the packets up to this one
latest_up_to : (capture : Capture) (number : ℕ) → max (latest_before capture number) (stamp_at capture number) ≡ latest capture number
latest_up_to capture zero = (let s = stamp_at capture 0 in omega arith)
latest_up_to capture (suc number) = refl

-- of one more
pub latest_more : (capture : Capture) (number : ℕ) → max (latest_before capture number) (stamp_at capture number) ≡ latest_before capture (number + 1)
latest_more capture number = latest_up_to capture number ∙ ap (latest_before capture) (sym (add-one number))

-- less that of the first
pub time_is : (capture : Capture) (number first last : ℕ) → first ≡ stamp_at capture 0 → last ≡ max (latest_before capture number) (stamp_at capture number)
    → last ≡ latest capture number
time_is capture number first last is most = most ∙ latest_up_to capture number
