use Rattle.std.proofs.Common.{◌≡◌, take}
use Rattle.vg_reporting.specs.Reports.{all_made}
use Rattle.vg_reporting.proofs.parts.errors.Given as goal

abbrev pub invariant-loop-n : goal.invariant-loop-n
invariant-loop-n l = l.entries.items ≡ all_made (take l.n l.graph.nodes) l.counts.drops
