-- The savefile of a load's packets.
use Rattle.std.specs.Prelude.{ℕ, List, map}
use Rattle.std.specs.List.{enumerate_from}
use Rattle.vg_capture.specs.declared.captures.Captured.{Captured}
use Rattle.vg_capture.specs.declared.captures.Capture.{Capture}
use Rattle.vg_capture.specs.Savefile.{savefile}

-- packets by their numbers from this one on, each with the bytes that were captured
abbrev pub numbered_from : ℕ → List Captured → List (ℕ × List ℕ)
numbered_from number packets = map (λ packet. (packet.0, packet.1.bytes)) (enumerate_from number packets)

-- the savefile of all packets of a capture
abbrev pub whole_savefile : Capture → List ℕ
whole_savefile capture = savefile capture (numbered_from 0 capture.packets)
