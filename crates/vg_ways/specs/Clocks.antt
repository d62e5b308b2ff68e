-- The times of packets, one after the other.
use Rattle.std.specs.Prelude.{ℕ, zero, suc}
use Rattle.vg_capture.specs.declared.captures.Capture.{Capture}
use Rattle.vg_capture.specs.Time.{stamp_at, latest}

-- the greatest time stamp of so many packets; that of the first, where there are none
abbrev pub latest_before : Capture → ℕ → ℕ
latest_before capture zero = stamp_at capture 0
latest_before capture (suc number) = latest capture number
