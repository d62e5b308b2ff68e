-- The numbers of packets: where the savefiles begin among those that came, and which packets of a run were transmitted or dropped.
use Rattle.std.specs.Prelude.{ℕ, suc, ◌+◌, Bool, true, false, not, List, [], ◌∷◌, ◌++◌, length, map, if◌then◌else◌}
use Rattle.vg_capture.specs.declared.captures.Capture.{Capture}
use Rattle.vg_match.specs.Sides.{frame_at}
use Rattle.vg_report.specs.declared.reports.PacketEnd.{PacketEnd}
use Rattle.vg_report.specs.declared.reports.PacketEnd.TheVariants as ends
use Rattle.vg_report.specs.declared.reports.PacketLine.{PacketLine}
use Rattle.vg_report.specs.declared.reports.Report.{Report}

-- the number of the first packet of each of these captures, behind so many packets
abbrev pub starts_behind : ℕ → List Capture → List ℕ
starts_behind count [] = []
starts_behind count (capture ∷ captures) = count ∷ starts_behind (count + length capture.packets) captures

-- the number of the first packet of each capture but the first
abbrev pub starts_of : List Capture → List ℕ
starts_of [] = []
starts_of (first ∷ others) = starts_behind (length first.packets) others

-- a number, where it counts
abbrev pub number_if : Bool → ℕ → List ℕ
number_if counts number = if counts then number ∷ [] else []

-- a packet that ended so counts: where the ones that were sent do, or where the ones that were dropped do
abbrev pub counts_among : (sent : Bool) → PacketEnd → Bool
counts_among sent (ends.Tx interface) = sent
counts_among sent (ends.Dropped node error) = not sent

-- the numbers of those that count, from a number on
abbrev pub numbers_from : (sent : Bool) → ℕ → List PacketLine → List ℕ
numbers_from sent number [] = []
numbers_from sent number (line ∷ lines) = number_if (counts_among sent line.end) number ++ numbers_from sent (suc number) lines

-- the numbers of a run's packets that were sent, or of those that were dropped
abbrev pub numbers_of : (sent : Bool) → Report → List ℕ
numbers_of sent report = numbers_from sent 0 report.packets

abbrev pub sent_numbers : Report → List ℕ
sent_numbers report = numbers_of true report

abbrev pub dropped_numbers : Report → List ℕ
dropped_numbers report = numbers_of false report

-- the frames of these numbers
abbrev pub frames_of_numbers : List (List ℕ) → List ℕ → List (List ℕ)
frames_of_numbers frames numbers = map (frame_at frames) numbers
