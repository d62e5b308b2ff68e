-- For `counts_are_reported`: line by line.
use Rattle.std.proofs.Common.{ℕ, List, length, map, flat_map, sym, ap, ◌∙◌}
use Rattle.std.specs.Prelude.{filter, nat_lt}
use Rattle.std.specs.List.{enumerate_from}
use Rattle.std.proofs.lemmas.List.{length-map}
use Rattle.vg_model.specs.declared.kinds.DropError.{DropError}
use Rattle.vg_model.specs.Errors.{all_errors}
use Rattle.vg_model.specs.Graph.{Node}
use Rattle.vg_report.specs.declared.reports.Report.{Report}
use Rattle.vg_check.specs.Output.{last_graph, packet_line_of}
use Rattle.vg_why.proofs.laws.counts_are_reported.Goals as goal

pub returns : goal.returns
returns c = λ case report js names text travelled same counts.
    let g = last_graph case.plan.graphs in
    record {
      packets = ap (λ (r : Report). length r.packets) same ∙ length-map js (packet_line_of g) ∙ sym counts.packets;
      interfaces = ap (λ (r : Report). r.interfaces) same ∙ (λ i. map (λ n. (n.1.name, sym (counts.sends n.0) i)) (enumerate_from 0 g.interfaces));
      errors = ap (λ (r : Report). r.errors) same
          ∙ (λ i. flat_map (λ (n : ℕ × Node). filter (λ (entry : List ℕ × DropError × ℕ). nat_lt 0 entry.2)
          (map {B = List ℕ × DropError × ℕ} (λ error. (n.1.name, error, sym (counts.drops n.0 error) i)) all_errors)) (enumerate_from 0 g.nodes));
    }
