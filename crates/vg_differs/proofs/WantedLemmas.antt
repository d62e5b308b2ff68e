-- For `wanted_report`: its parts are those that packets come to.
use Rattle.std.proofs.Common.{◌≡◌, ◌<◌, List, [], ◌∷◌, length, map, take, ap, subst, sym, ◌∙◌}
use Rattle.std.specs.List.{AllByRecursion}
use Rattle.vg_model.specs.declared.fates.End.{End}
use Rattle.vg_model.specs.declared.fates.End.TheVariants as ends
use Rattle.vg_model.specs.declared.kinds.Interface.{Interface}
use Rattle.vg_model.specs.Graph.{Graph, Node, with_routes}
use Rattle.vg_model.specs.Journey.{Course, end_of}
use Rattle.vg_journeys.specs.Ends.{IsEndIn}
use Rattle.vg_replay.specs.declared.replaying.Replayed.{Replayed}
use Rattle.vg_report.specs.declared.reports.Report.{Report}
use Rattle.vg_report.specs.Lawful.{IsLawful}
use Rattle.vg_check.specs.Output.{node_name}
use Rattle.vg_check.specs.Reports.{counted, all_made, lines_by, trace_of, with_count, AreNames, CanReport}
use Rattle.vg_check.proofs.AgreementLemmas.{IsLastOf}
use Rattle.vg_check.proofs.EntryLemmas.{lines_with_routes}
use Rattle.vg_differs.specs.Wanted.{wanted}

-- ends are in a graph whatever its routes are
end_in : (g : Graph) (replayed : Replayed) (end : End) → IsEndIn (with_routes g replayed.last.routes replayed.last.routes6) end → IsEndIn g end
end_in g replayed (ends.Tx interface) h = h
end_in g replayed (ends.Dropped node error) h = h

all_ends_in : (g : Graph) (replayed : Replayed) (trips : List Course) → AllByRecursion (λ (t : Course). IsEndIn (with_routes g replayed.last.routes replayed.last.routes6) (end_of t.outcome)) trips
    → AllByRecursion (λ (t : Course). IsEndIn g (end_of t.outcome)) trips
all_ends_in g replayed [] h = tt
all_ends_in g replayed (t ∷ trips) h = (end_in g replayed (end_of t.outcome) h.0, all_ends_in g replayed trips h.1)

-- the ends and the nodes that are named are in this graph
pub ends_are_in : (g : Graph) (report : Report) (replayed : Replayed) → IsLastOf g replayed → CanReport report replayed
    → AllByRecursion (λ (t : Course). IsEndIn g (end_of t.outcome)) replayed.trips
ends_are_in g report replayed last can =
    all_ends_in g replayed replayed.trips (subst (λ (g : Graph). AllByRecursion (λ (t : Course). IsEndIn g (end_of t.outcome)) replayed.trips) (sym last) can.ends)

pub visits_are_in : (g : Graph) (report : Report) (replayed : Replayed) → IsLastOf g replayed → CanReport report replayed
    → AllByRecursion (λ (t : Course). AllByRecursion (λ node. node < length g.nodes) (trace_of t)) (take (length report.traces) replayed.trips)
visits_are_in g report replayed last can =
    subst (λ (g : Graph). AllByRecursion (λ (t : Course). AllByRecursion (λ node. node < length g.nodes) (trace_of t)) (take (length report.traces) replayed.trips)) (sym last) can.visits

-- a report is made of what packets come to, by this graph
pub record IsMadeOf (g : Graph) (report : Report) (replayed : Replayed) (made : Report) : Type 0 where
  pub workers : made.workers ≡ report.workers
  pub buffers : made.buffers ≡ report.buffers
  pub generations : made.generations ≡ report.generations
  pub interfaces : made.interfaces ≡ counted (λ (interface : Interface). interface.name) g.interfaces replayed.counts.sends
  pub nodes : made.nodes ≡ counted (λ (node : Node). node.name) g.nodes replayed.counts.visits
  pub errors : made.errors ≡ all_made g.nodes replayed.counts.drops
  pub packets : made.packets ≡ map with_count (lines_by g report.packets replayed.trips)
  pub traces : made.traces ≡ map (λ (t : Course). map (node_name g) (trace_of t)) (take (length report.traces) replayed.trips)

module _ (g : Graph) (report : Report) (replayed : Replayed) (made : Report) (last : IsLastOf g replayed) (is : IsMadeOf g report replayed made) where
  -- then it is the one that is wanted
  pub wanted_is : made ≡ wanted report replayed
  wanted_is =
      let whole : Graph = with_routes g replayed.last.routes replayed.last.routes6 in
      let routed : IsMadeOf whole report replayed made = record {
        workers = is.workers;
        buffers = is.buffers;
        generations = is.generations;
        interfaces = is.interfaces;
        nodes = is.nodes;
        errors = is.errors;
        packets = is.packets ∙ ap (map with_count) (lines_with_routes g replayed.last.routes replayed.last.routes6 report.packets replayed.trips);
        traces = is.traces;
      } in
      let parts : IsMadeOf replayed.last report replayed made = subst (λ (g : Graph). IsMadeOf g report replayed made) last routed in
      λ i. record {
        workers = parts.workers i;
        buffers = parts.buffers i;
        generations = parts.generations i;
        interfaces = parts.interfaces i;
        nodes = parts.nodes i;
        errors = parts.errors i;
        packets = parts.packets i;
        traces = parts.traces i;
      }

  -- and lawful
  pub wanted_lawful : CanReport report replayed → AreNames made.interfaces → AreNames made.nodes → IsLawful made
  wanted_lawful can interfaces nodes =
      subst IsLawful (sym wanted_is)
      (can.lawful (subst AreNames (ap (λ (r : Report). r.interfaces) wanted_is) interfaces) (subst AreNames (ap (λ (r : Report). r.nodes) wanted_is) nodes))
