-- What became of packets, by the numbers of interfaces and nodes in lists of names.
use Rattle.std.specs.Prelude.{ℕ, ◌<◌, List, [], length, map, slice_get, unwrap_or, All}
use Rattle.vg_model.specs.declared.fates.Fate.{Fate}
use Rattle.vg_model.specs.declared.fates.End.{End}
use Rattle.vg_model.specs.declared.fates.End.TheVariants as numbers
use Rattle.vg_report.specs.declared.reports.PacketLine.{PacketLine}
use Rattle.vg_report.specs.declared.reports.PacketEnd.{PacketEnd}
use Rattle.vg_report.specs.declared.reports.PacketEnd.TheVariants as ends

-- the name of a number
abbrev pub name_at : List (List ℕ) → ℕ → List ℕ
name_at names n = unwrap_or (slice_get names n) []

-- an end by names
abbrev pub end_by : (interfaces nodes : List (List ℕ)) → End → PacketEnd
end_by interfaces nodes (numbers.Tx interface) = ends.Tx (name_at interfaces interface)
end_by interfaces nodes (numbers.Dropped node error) = ends.Dropped (name_at nodes node) error

-- what became of a packet with this fate
abbrev pub line_by : (interfaces nodes : List (List ℕ)) → Fate → PacketLine
line_by interfaces nodes fate = record { legs = fate.legs; congested = fate.congested; end = end_by interfaces nodes fate.end }

-- what became of packets with these fates
abbrev pub lines_of : (interfaces nodes : List (List ℕ)) → List Fate → List PacketLine
lines_of interfaces nodes fates = map (line_by interfaces nodes) fates

-- the number of an end has a name
abbrev pub IsNamed : (interfaces nodes : List (List ℕ)) → End → Type 0
IsNamed interfaces nodes (numbers.Tx interface) = interface < length interfaces
IsNamed interfaces nodes (numbers.Dropped node error) = node < length nodes

-- so have all
abbrev pub AreNamed : (interfaces nodes : List (List ℕ)) → List Fate → Type 0
AreNamed interfaces nodes fates = All (λ (fate : Fate). IsNamed interfaces nodes fate.end) fates
