use Rattle.std.proofs.Common.{List, map, ap, refl, sym, ◌∙◌}
use Rattle.std.specs.Prelude.{flat_map}
use Rattle.vg_steps.specs.Seated.{TableId}
use Rattle.vg_dispatch.specs.Workers.{WorkerBook}
use Rattle.vg_engine.proofs.RingLemmas.{rings_back, all_rings, outcome_rings}
use Rattle.vg_engine.proofs.TieLemmas.{crew_here, crew_back}
use Rattle.vg_engine.proofs.threads.run_counted.Goals as goal

pub run_workers-requires-clause-workers : goal.run_workers-requires-clause-workers
run_workers-requires-clause-workers g c κs within = crew_here g.K.KindSet.meaning g.H.Handoff.LOSSLESS _ _ _ _ _ c.in_ok-pool.ensures.crew

pub end-requires-clause-crew : goal.end-requires-clause-crew
end-requires-clause-crew g c κs within = crew_back g.K.KindSet.meaning g.H.Handoff.LOSSLESS _ _ _ _ _ _ c.in_ok-pool.ensures.crew c.in_ok-main.ensures.workers

pub returns-clause-rings : goal.returns-clause-rings
returns-clause-rings g c =
    let links = c.args.links.workers.items in
    let workers = c.in_ok-main.workers.items in
    let same = rings_back g.K.KindSet.meaning g.H.Handoff.LOSSLESS _ _ workers (λ w. refl) c.in_ok-main.ensures.workers ∙ c.in_ok-pool.ensures.rings in
    outcome_rings c.end.result (flat_map (λ (w : WorkerBook). w.outputs) workers) (flat_map (λ l. map g.H.Handoff.ring l.outputs.items) links)
    (all_rings (λ (w : WorkerBook). w.outputs) workers ∙ ap (flat_map (λ (r : List TableId). r)) same ∙ sym (all_rings (λ l. map g.H.Handoff.ring l.outputs.items) links)) c.end.ensures.rings
