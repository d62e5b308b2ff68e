-- Worked examples of reports, which the tests and the computed examples speak of.
use Rattle.std.specs.Prelude.{ℕ, List, [], ◌∷◌, codes, Some, None}
use Rattle.vg_model.specs.declared.fates.Leg.{Leg}
use Rattle.vg_model.specs.declared.kinds.DropError.TheVariants as errors
use Rattle.vg_report.specs.declared.reports.Report.{Report}
use Rattle.vg_report.specs.declared.reports.PacketLine.{PacketLine}
use Rattle.vg_report.specs.declared.reports.PacketEnd.{PacketEnd}
use Rattle.vg_report.specs.declared.reports.PacketEnd.TheVariants as ends

-- a leg on a worker under a generation
abbrev pub at : ℕ → ℕ → Leg
at worker generation = record { worker = worker; generation = generation }

-- a packet with these legs that no full queue ended
abbrev pub ended : List Leg → PacketEnd → PacketLine
ended legs end = record { legs = legs; congested = None; end = end }

-- transmitted on `pg0`
abbrev pub sent : PacketEnd
sent = ends.Tx (codes "pg0")

-- one worker, three packets: two are transmitted, and one isn't IPv4
abbrev pub two_of_three_sent : Report
two_of_three_sent = record {
  workers = 1;
  buffers = 4096;
  generations = 1;
  interfaces = (codes "pg0", 2) ∷ [];
  nodes = (codes "pg-input", 3) ∷ (codes "handoff-dequeue", 0) ∷ (codes "ethernet-input", 3) ∷ (codes "ip4-input", 0) ∷ (codes "ip4-lookup", 0)
      ∷ (codes "ip4-rewrite", 0) ∷ (codes "interface-output", 0) ∷ (codes "interface-tx", 2) ∷ (codes "error-drop", 1) ∷ [];
  errors = (codes "ethernet-input", errors.UnknownType, 1) ∷ [];
  packets = ended (at 0 0 ∷ []) sent ∷ ended (at 0 0 ∷ []) sent ∷ ended (at 0 0 ∷ []) (ends.Dropped (codes "ethernet-input") errors.UnknownType) ∷ [];
  traces = [];
}

-- a packet that a full queue ended
abbrev pub refused : PacketLine
refused = record { legs = at 0 0 ∷ []; congested = Some 1; end = ends.Dropped (codes "hand") errors.Congestion }

-- two workers with a queue of one slot: five packets, of which one finds the queue full
abbrev pub one_refused : Report
one_refused = record {
  workers = 2;
  buffers = 4096;
  generations = 1;
  interfaces = (codes "pg0", 4) ∷ [];
  nodes = (codes "pg-input", 5) ∷ (codes "handoff-dequeue", 2) ∷ (codes "ethernet-input", 4) ∷ (codes "ip4-input", 0) ∷ (codes "ip4-lookup", 0)
      ∷ (codes "ip4-rewrite", 0) ∷ (codes "interface-output", 0) ∷ (codes "interface-tx", 4) ∷ (codes "error-drop", 1) ∷ (codes "hand", 5) ∷ [];
  errors = (codes "hand", errors.Congestion, 1) ∷ [];
  packets = ended (at 0 0 ∷ at 1 0 ∷ []) sent ∷ ended (at 1 0 ∷ []) sent ∷ refused ∷ ended (at 1 0 ∷ []) sent ∷ ended (at 0 0 ∷ at 1 0 ∷ []) sent ∷ [];
  traces = (codes "pg-input" ∷ codes "hand" ∷ codes "handoff-dequeue" ∷ codes "ethernet-input" ∷ codes "interface-tx" ∷ [])
      ∷ (codes "pg-input" ∷ codes "hand" ∷ codes "ethernet-input" ∷ codes "interface-tx" ∷ [])
      ∷ (codes "pg-input" ∷ codes "hand" ∷ codes "error-drop" ∷ []) ∷ [];
}

-- two workers, two generations and two interfaces: a packet is transmitted after a handoff, one finds a queue full, and one has too many legs
abbrev pub every_kind_of_line : Report
every_kind_of_line = record {
  workers = 2;
  buffers = 768;
  generations = 2;
  interfaces = (codes "pg0", 0) ∷ (codes "west", 1) ∷ [];
  nodes = (codes "pg-input", 3) ∷ (codes "error-drop", 2) ∷ (codes "hand", 6) ∷ [];
  errors = (codes "hand", errors.Congestion, 1) ∷ (codes "hand", errors.HandoffLimit, 1) ∷ [];
  packets = ended (at 0 0 ∷ at 1 1 ∷ []) (ends.Tx (codes "west"))
      ∷ record { legs = at 1 0 ∷ []; congested = Some 64; end = ends.Dropped (codes "hand") errors.Congestion }
      ∷ ended (at 0 1 ∷ at 1 1 ∷ at 0 1 ∷ at 1 1 ∷ []) (ends.Dropped (codes "hand") errors.HandoffLimit) ∷ [];
  traces = (codes "pg-input" ∷ codes "hand" ∷ []) ∷ (codes "pg-input" ∷ codes "hand" ∷ codes "error-drop" ∷ []) ∷ [];
}
