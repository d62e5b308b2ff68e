-- Visits of which none drops a packet by congestion: only a full queue does. And reports that tell of none.
use Rattle.std.specs.Prelude.{◌≡◌, ◌≢◌, ℕ, None}
use Rattle.std.specs.List.{AllByRecursion}
use Rattle.vg_model.specs.declared.kinds.DropError.{DropError}
use Rattle.vg_model.specs.declared.kinds.DropError.TheVariants.{Congestion}
use Rattle.vg_model.specs.declared.kinds.Step.{Step}
use Rattle.vg_model.specs.declared.kinds.Step.TheVariants as steps
use Rattle.vg_model.specs.Packet.{Packet}
use Rattle.vg_model.specs.Graph.{Graph}
use Rattle.vg_model.specs.Visit.{Visit}
use Rattle.vg_report.specs.declared.reports.Report.{Report}
use Rattle.vg_report.specs.declared.reports.PacketEnd.{PacketEnd}
use Rattle.vg_report.specs.declared.reports.PacketEnd.TheVariants as ends

-- a step that is no drop by congestion
abbrev pub IsOwnStep : Step → Type 0
IsOwnStep (steps.Dropped error) = error ≢ Congestion
IsOwnStep (steps.Next slot) = Unit {0}
IsOwnStep (steps.Tx interface) = Unit {0}
IsOwnStep (steps.Hand hash) = Unit {0}

-- no visit makes one
abbrev pub NeverCongests : Visit → Type 0
NeverCongests visit = (g : Graph) (n : ℕ) (p : Packet) → IsOwnStep (visit g n p).0

-- an end that is no drop by this error
abbrev pub IsNoDropBy : DropError → PacketEnd → Type 0
IsNoDropBy error (ends.Tx interface) = Unit {0}
IsNoDropBy error (ends.Dropped node other) = other ≢ error

-- the report names no packet that was dropped by this error
abbrev pub NamesNoDropBy : DropError → Report → Type 0
NamesNoDropBy error report = AllByRecursion (λ line. IsNoDropBy error line.end) report.packets

-- the report names no packet that a queue refused
abbrev pub NamesNoRefusal : Report → Type 0
NamesNoRefusal report = AllByRecursion (λ line. line.congested ≡ None) report.packets
