-- What holds of a report of which lines are read.
use Rattle.std.specs.Prelude.{◌≡◌, ℕ, ◌+◌, ◌<◌, ◌≤◌, ◌^◌, List, length, bytes_eq}
use Rattle.std.specs.List.{AllByRecursion, IsDistinct}
use Rattle.vg_model.specs.Name.{IsName}
use Rattle.vg_report.specs.declared.reports.Report.{Report}
use Rattle.vg_report.specs.Lawful.{names, AreErrorsFrom, IsPacketLawful, IsTraceLawful}

-- so many names at most, all different, with counts below 2^63
pub record AreNamedSoFar (most : ℕ) (counts : List (List ℕ × ℕ)) : Type 0 where
  pub few : length counts ≤ most
  pub are_names : AllByRecursion (λ entry. IsName entry.0) counts
  pub differ : IsDistinct bytes_eq (names counts)
  pub small : AllByRecursion (λ entry. entry.1 < 2 ^ 63) counts

-- a report of so many packets in all, up to some line
pub record IsSoFar (total : ℕ) (r : Report) : Type 0 where
  pub workers : (1 ≤ r.workers) × (r.workers ≤ 8)
  pub buffers : r.buffers ≤ 16384
  pub generations : (1 ≤ r.generations) × (r.generations ≤ 1000)
  pub announced : total ≤ 65536
  pub interfaces : AreNamedSoFar 16 r.interfaces
  pub nodes : AreNamedSoFar 64 r.nodes
  pub errors : AreErrorsFrom (names r.nodes) 0 r.errors
  pub few_packets : length r.packets ≤ total
  pub packets : AllByRecursion (IsPacketLawful r) r.packets
  pub few_traces : (length r.traces ≤ 256) × (length r.traces ≤ total)
  pub traces : AllByRecursion (IsTraceLawful (names r.nodes)) r.traces
  -- no line came too early
  pub interfaces_first : 0 < length r.nodes → 0 < length r.interfaces
  pub nodes_first : 0 < length r.errors + length r.packets → 0 < length r.nodes
  pub packets_first : 0 < length r.traces → length r.packets ≡ total
