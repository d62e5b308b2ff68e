use Rattle.std.proofs.Common.{ℕ, List, map, ap, sym, subst, ◌∙◌}
use Rattle.std.specs.Prelude.{flat_map}
use Rattle.vg_steps.specs.Seated.{TableId}
use Rattle.vg_dispatch.specs.Workers.{WorkerBook}
use Rattle.vg_engine.proofs.RingLemmas.{all_rings, outcome_rings}
use Rattle.vg_engine.specs.Orders.{AreTurns}
use Rattle.vg_engine.proofs.runs.run_counted.Goals as goal

pub follow-main-requires-clause-turns : goal.follow-main-requires-clause-turns
follow-main-requires-clause-turns g c κs within = subst (λ (count : ℕ). AreTurns count c.args.turns.now) (sym c.in_ok-pool.ensures.crew.count) c.requires.turns

pub returns-clause-rings : goal.returns-clause-rings
returns-clause-rings g c =
    let links = c.args.links.workers.items in
    let workers = c.follow-main.new.workers.items in
    let same = c.follow-main.ensures.rings ∙ c.in_ok-pool.ensures.rings in
    outcome_rings c.end.result (flat_map (λ (w : WorkerBook). w.outputs) workers) (flat_map (λ l. map g.H.Handoff.ring l.outputs.items) links)
    (all_rings (λ (w : WorkerBook). w.outputs) workers ∙ ap (flat_map (λ (r : List TableId). r)) same ∙ sym (all_rings (λ l. map g.H.Handoff.ring l.outputs.items) links)) c.end.ensures.rings
