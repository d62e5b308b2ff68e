-- The report of a run.
use Rattle.std.specs.Prelude.{ℕ, map}
use Rattle.vg_report.specs.declared.reports.Report.{Report}
use Rattle.vg_reporting.specs.Reports.{counted, all_made, line_of_fate}
use Rattle.vg_check.specs.Output.{node_name}
use Rattle.vg_dispatch.specs.declared.options.Options.{Options}
use Rattle.vg_engine.specs.declared.runs.Outcome.{Outcome}

-- the report of what came of a run over so many generations
abbrev pub reported : Options → (generations : ℕ) → Outcome → Report
reported options generations outcome = record {
  workers = options.workers;
  buffers = outcome.settled.len;
  generations = generations;
  interfaces = counted (λ interface. interface.name) outcome.last.interfaces outcome.counts.sends;
  nodes = counted (λ node. node.name) outcome.last.nodes outcome.counts.visits;
  errors = all_made outcome.last.nodes outcome.counts.drops;
  packets = map (line_of_fate outcome.last) outcome.fates;
  traces = map (map (node_name outcome.last)) outcome.trace;
}
