use Rattle.std.proofs.Common.{length, ap, arith}
use Rattle.std.proofs.lemmas.List.{length-map}
use Rattle.vg_script.specs.Events.{Event, events}
use Rattle.vg_plan.specs.View.{planned}
use Rattle.vg_plan.specs.Plan.{Planned}
use Rattle.vg_plan.proofs.GenerationLemmas.{length_graphs}
use Rattle.vg_plan.proofs.plans.Plan.generations.Goals as goal

pub returns-clause-graphs : goal.returns-clause-graphs
returns-clause-graphs c =
    let graphs = length_graphs (planned c.self.inside) c.self.invariant.planned in
    let times = ap length c.self.invariant.times.are in
    let same = length-map (events c.self.inside.script) (λ (e : Event). e.time) in
    omega (arith, graphs, times, same, c.len.ensures, ap (λ (p : Planned). length p.graphs) c.self.view_is)
