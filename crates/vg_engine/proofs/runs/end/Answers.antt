use Rattle.std.proofs.Common.{List, ap, sym, ◌∙◌}
use Rattle.std.specs.Prelude.{flat_map}
use Rattle.vg_steps.specs.Seated.{TableId}
use Rattle.vg_dispatch.specs.Workers.{WorkerBook}
use Rattle.vg_engine.proofs.RingLemmas.{all_rings, outcome_rings}
use Rattle.vg_engine.proofs.runs.end.Goals as goal

pub returns-clause-rings : goal.returns-clause-rings
returns-clause-rings g c =
    let before = c.args.run.workers.items in
    let after = c.finish.new.workers.items in
    let same = c.finish.ensures.rings ∙ c.lead-main.ensures.rings in
    outcome_rings c.conclude.result (flat_map (λ (w : WorkerBook). w.outputs) after) (flat_map (λ (w : WorkerBook). w.outputs) before)
    (all_rings (λ (w : WorkerBook). w.outputs) after ∙ ap (flat_map (λ (r : List TableId). r)) same ∙ sym (all_rings (λ (w : WorkerBook). w.outputs) before)) c.conclude.ensures.rings
