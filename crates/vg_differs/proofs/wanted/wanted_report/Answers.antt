-- For `wanted_report`: the ends and nodes that it names are there, and its parts are those that packets come to.
use Rattle.std.proofs.Common.{List, ℕ, ap, subst, sym, ◌<◌, ◌∙◌, length, map, take, refl}
use Rattle.std.specs.List.{AllByRecursion}
use Rattle.vg_model.specs.Graph.{Graph}
use Rattle.vg_model.specs.Journey.{Course}
use Rattle.vg_check.specs.Output.{node_name}
use Rattle.vg_check.specs.Reports.{trace_of}
use Rattle.vg_differs.proofs.WantedLemmas.{ends_are_in, visits_are_in, wanted_is, wanted_lawful}
use Rattle.vg_differs.proofs.wanted.wanted_report.Goals as goal

pub lines_of-requires-clause-ends : goal.lines_of-requires-clause-ends
lines_of-requires-clause-ends c = ends_are_in c.graph-graph.result.now c.args.report.now c.args.replayed.now c.graph-graph.ensures.graph c.requires

pub traces_of-requires-clause-nodes : goal.traces_of-requires-clause-nodes
traces_of-requires-clause-nodes c =
    let g : Graph = c.graph-graph.result.now in
    subst (λ ts. AllByRecursion (λ (t : Course). AllByRecursion (λ node. node < length g.nodes) (trace_of t)) (take (length ts) c.args.replayed.now.trips)) (sym c.as_slice-traced.ensures)
    (visits_are_in g c.args.report.now c.args.replayed.now c.graph-graph.ensures.graph c.requires)

pub returns-clause-report : goal.returns-clause-report
returns-clause-report c =
    let g : Graph = c.graph-graph.result.now in
    let replayed = c.args.replayed.now in
    wanted_is g c.args.report.now replayed _ c.graph-graph.ensures.graph (record {
      workers = refl;
      buffers = refl;
      generations = refl;
      interfaces = c.in_ok-interfaces.ensures.counts;
      nodes = c.in_ok-nodes.ensures.counts;
      errors = c.in_ok-errors.ensures;
      packets = c.in_ok-packets.ensures;
      traces = c.in_ok-traces.ensures ∙ ap (λ (ts : List (List (List ℕ))). map (λ (t : Course). map (node_name g) (trace_of t)) (take (length ts) replayed.trips)) c.as_slice-traced.ensures;
    })

pub returns-clause-lawful : goal.returns-clause-lawful
returns-clause-lawful c =
    let g : Graph = c.graph-graph.result.now in
    let replayed = c.args.replayed.now in
    wanted_lawful g c.args.report.now replayed _ c.graph-graph.ensures.graph (record {
      workers = refl;
      buffers = refl;
      generations = refl;
      interfaces = c.in_ok-interfaces.ensures.counts;
      nodes = c.in_ok-nodes.ensures.counts;
      errors = c.in_ok-errors.ensures;
      packets = c.in_ok-packets.ensures;
      traces = c.in_ok-traces.ensures ∙ ap (λ (ts : List (List (List ℕ))). map (λ (t : Course). map (node_name g) (trace_of t)) (take (length ts) replayed.trips)) c.as_slice-traced.ensures;
    }) c.requires c.in_ok-interfaces.ensures.names c.in_ok-nodes.ensures.names
