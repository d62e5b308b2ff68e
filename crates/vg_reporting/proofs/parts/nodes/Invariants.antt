use Rattle.std.proofs.Common.{◌≡◌, take}
use Rattle.std.specs.List.{AllByRecursion}
use Rattle.vg_model.specs.Name.{IsName}
use Rattle.vg_reporting.specs.Reports.{counted}
use Rattle.vg_reporting.proofs.parts.nodes.Given as goal

abbrev pub invariant-loop-n : goal.invariant-loop-n
invariant-loop-n l = record {
  counts : l.entries.items ≡ counted (λ node. node.name) (take l.n l.graph.nodes) l.counts.visits;
  names : AllByRecursion (λ entry. IsName entry.0) l.entries.items;
}
