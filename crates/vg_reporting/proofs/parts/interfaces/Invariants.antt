use Rattle.std.proofs.Common.{◌≡◌, take}
use Rattle.std.specs.List.{AllByRecursion}
use Rattle.vg_model.specs.Name.{IsName}
use Rattle.vg_reporting.specs.Reports.{counted}
use Rattle.vg_reporting.proofs.parts.interfaces.Given as goal

abbrev pub invariant-loop-n : goal.invariant-loop-n
invariant-loop-n l = record {
  counts : l.entries.items ≡ counted (λ interface. interface.name) (take l.n l.graph.interfaces) l.counts.sends;
  names : AllByRecursion (λ entry. IsName entry.0) l.entries.items;
}
