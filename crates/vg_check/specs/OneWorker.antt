-- Runs on one worker.
use Rattle.std.specs.Prelude.{◌≢◌, ℕ, suc, List, [], ◌∷◌, None}
use Rattle.std.specs.List.{AllByRecursion}
use Rattle.vg_model.specs.declared.kinds.DropError.TheVariants.{Congestion, HandoffLimit}
use Rattle.vg_model.specs.Journey.{Choice}
use Rattle.vg_report.specs.declared.reports.Report.{Report}
use Rattle.vg_report.specs.declared.reports.PacketEnd.{PacketEnd}
use Rattle.vg_report.specs.declared.reports.PacketEnd.TheVariants as ends
use Rattle.vg_check.specs.Output.{Setting}

-- the same run on one worker
abbrev pub alone : Setting → Setting
alone setting = record setting { workers = 1 }

-- where there is one worker nothing is chosen: packet `number` has one leg, under the generation of its time, and no push is refused
abbrev pub only_choice : (ℕ → ℕ) → ℕ → Choice
only_choice first number = record { generations = first number ∷ []; accepted = None }

-- the same for each of these packets, by number, from this number on
abbrev pub only_choices : {X : Type 0} → (ℕ → ℕ) → ℕ → List X → List Choice
only_choices first number [] = []
only_choices first number (packet ∷ packets) = only_choice first number ∷ only_choices first (suc number) packets

-- an end that one worker may bring too: neither by a full queue nor by the limit of legs
abbrev pub IsOwnEnd : PacketEnd → Type 0
IsOwnEnd (ends.Tx interface) = Unit {0}
IsOwnEnd (ends.Dropped node error) = (error ≢ Congestion) × (error ≢ HandoffLimit)

-- the report names no `congestion` and no `handoff-limit`
abbrev pub HasOwnEnds : Report → Type 0
HasOwnEnds report = AllByRecursion (λ line. IsOwnEnd line.end) report.packets
