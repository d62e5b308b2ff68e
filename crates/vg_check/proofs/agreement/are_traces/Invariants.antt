use Rattle.std.proofs.Common.{◌≡◌, take, map, length}
use Rattle.vg_check.specs.Output.{node_name}
use Rattle.vg_check.specs.Reports.{trace_of}
use Rattle.vg_check.proofs.agreement.are_traces.Given as goal

abbrev pub invariant-loop-k : goal.invariant-loop-k
invariant-loop-k l = take l.k l.traces ≡ take l.k (map (λ t. map (node_name l.graph) (trace_of t)) (take (length l.traces) l.trips))
