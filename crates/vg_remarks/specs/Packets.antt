-- What became of single packets that need not have been so (this project's profile).
use Rattle.std.specs.Prelude.{ℕ, zero, suc, Bool, true, false, List, [], ◌++◌, count_by, slice_get, Option, Some, None, is_some, option_map, option_to_list, if◌then◌else◌}
use Rattle.vg_model.specs.declared.routes.Prefix.{Prefix}
use Rattle.vg_capture.specs.declared.captures.Captured.{Captured}
use Rattle.vg_report.specs.declared.reports.PacketEnd.{PacketEnd}
use Rattle.vg_report.specs.declared.reports.PacketEnd.TheVariants as ends
use Rattle.vg_report.specs.declared.reports.PacketLine.{PacketLine}
use Rattle.vg_remarks.specs.declared.packets.Unforwarded.{Unforwarded}
use Rattle.vg_remarks.specs.Addresses.{class_of, destination}

-- a packet was dropped since a queue was full
abbrev pub is_congested : PacketLine → Bool
is_congested line = is_some line.congested

-- how many were
abbrev pub congested : List PacketLine → ℕ
congested lines = count_by is_congested lines

-- a packet was transmitted
abbrev pub is_sent : PacketEnd → Bool
is_sent (ends.Tx interface) = true
is_sent (ends.Dropped node error) = false

-- what is said of a packet to this address
abbrev pub said_of : List Prefix → (number : ℕ) → Option ℕ → Option Unforwarded
said_of led number None = None
said_of led number (Some address) = option_map (λ class. record { number = number; address = address; class = class }) (class_of led address)

-- what is said of a packet: that it was transmitted, though a router does not forward to its destination
abbrev pub told : List Prefix → (number : ℕ) → Captured → PacketLine → Option Unforwarded
told led number captured line = if is_sent line.end then said_of led number (destination captured.bytes) else None

abbrev pub told_of : List Prefix → (number : ℕ) → Option Captured → Option PacketLine → Option Unforwarded
told_of led number (Some captured) (Some line) = told led number captured line
told_of led number (Some captured) None = None
told_of led number None line = None

-- what is said of the first packets, in their order
abbrev pub told_below : List Prefix → List Captured → List PacketLine → ℕ → List Unforwarded
told_below led packets lines zero = []
told_below led packets lines (suc number) =
    told_below led packets lines number ++ option_to_list (told_of led number (slice_get packets number) (slice_get lines number))
