use Rattle.std.proofs.Common.{◌≡◌, map, take}
use Rattle.vg_reporting.proofs.parts.interface_names.Given as goal

abbrev pub invariant-loop-n : goal.invariant-loop-n
invariant-loop-n l = l.names.items ≡ map (λ interface. interface.name) (take l.n l.graph.interfaces)
