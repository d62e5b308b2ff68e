-- For `spot_at`: the record begins where those before it end, and not behind the place.
use Rattle.std.proofs.Common.{◌≡◌, ◌≤◌, take}
use Rattle.vg_capture.specs.Savefile.{pairs}
use Rattle.vg_differs.specs.Records.{end_of}
use Rattle.vg_differs.proofs.records.spot_at.Given as goal

abbrev pub invariant-loop-number : goal.invariant-loop-number
invariant-loop-number l = record { start : l.start ≡ end_of (take l.number (pairs l.sent)); within : l.start ≤ l.place }
