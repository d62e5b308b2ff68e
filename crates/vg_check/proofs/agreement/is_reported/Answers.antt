use Rattle.std.proofs.Common.{◌∙◌, List, ℕ, map, take, length, sym, ap, subst}
use Rattle.vg_model.specs.declared.kinds.Interface.{Interface}
use Rattle.vg_model.specs.Graph.{Graph, Node}
use Rattle.vg_model.specs.Journey.{Course}
use Rattle.vg_check.specs.Output.{node_name}
use Rattle.vg_check.specs.Reports.{counted, trace_of, AreNames}
use Rattle.vg_check.proofs.AgreementLemmas.{AreParts, whole_report, report_parts}
use Rattle.vg_check.proofs.agreement.is_reported.Goals as goal

pub returns-clause-same : goal.returns-clause-same
returns-clause-same c =
    let g : Graph = c.graph-graph.result.now in
    let report = c.args.report.now in
    let replayed = c.args.replayed.now in
    let last = c.graph-graph.ensures.graph in
    let made_interfaces = c.as_slice-3.ensures ∙ c.in_ok-interfaces.ensures.counts in
    let made_nodes = c.as_slice-5.ensures ∙ c.in_ok-nodes.ensures.counts in
    let made_errors = c.as_slice-7.ensures ∙ c.in_ok-errors.ensures in
    let traces = ap (λ (ts : List (List (List ℕ))). map (λ (t : Course). map (node_name g) (trace_of t)) (take (length ts) replayed.trips)) c.as_slice.ensures in (
      (λ h.
          let all = c.all_five.ensures.0 h in
          whole_report g report replayed last (
            sym c.as_slice-2.ensures ∙ (c.are_counts-interfaces.ensures.0 all.0 ∙ made_interfaces),
            sym c.as_slice-4.ensures ∙ (c.are_counts-nodes.ensures.0 all.1 ∙ made_nodes),
            sym c.as_slice-6.ensures ∙ (c.are_errors-errors.ensures.0 all.2 ∙ made_errors),
            c.are_lines-lines.ensures.0 all.3,
            sym c.as_slice.ensures ∙ (c.in_ok-traces.ensures.0 all.4 ∙ traces),
          )),
      (λ e.
          let parts : AreParts g report replayed = report_parts g report replayed last e in
          c.all_five.ensures.1 (
            c.are_counts-interfaces.ensures.1 (c.as_slice-2.ensures ∙ (parts.0 ∙ sym made_interfaces)),
            c.are_counts-nodes.ensures.1 (c.as_slice-4.ensures ∙ (parts.1 ∙ sym made_nodes)),
            c.are_errors-errors.ensures.1 (c.as_slice-6.ensures ∙ (parts.2 ∙ sym made_errors)),
            c.are_lines-lines.ensures.1 parts.3,
            c.in_ok-traces.ensures.1 (c.as_slice.ensures ∙ (parts.4 ∙ sym traces)),
          )),
    )

pub returns-clause-lawful : goal.returns-clause-lawful
returns-clause-lawful c =
    let replayed = c.args.replayed.now in
    let last = c.graph-graph.ensures.graph in
    c.requires.lawful
    (subst AreNames (c.in_ok-interfaces.ensures.counts ∙ ap (λ (g : Graph). counted (λ (interface : Interface). interface.name) g.interfaces replayed.counts.sends) last) c.in_ok-interfaces.ensures.names)
    (subst AreNames (c.in_ok-nodes.ensures.counts ∙ ap (λ (g : Graph). counted (λ (node : Node). node.name) g.nodes replayed.counts.visits) last) c.in_ok-nodes.ensures.names)
