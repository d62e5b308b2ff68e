use Rattle.std.proofs.Common.{◌≡◌, ◌<◌, ◌∙◌, length, ap, get_or, rules, length-set, sym}
use Rattle.std.proofs.Math.Seq.{map-set_same}
use Rattle.vg_dispatch.specs.Workers.{WorkerBook}
use Rattle.vg_dispatch.specs.Standing.{barrier_of}
use Rattle.vg_workers.proofs.CrewLemmas.{crew_at, crew_set, stopped_same}
use Rattle.vg_workers.proofs.crews.finish_all.Goals as goal

pub finish-requires-clause-worker : goal.finish-requires-clause-worker
finish-requires-clause-worker g c =
    let items = c.loop-k.workers.items in
    let was = c.index_mut.result.now in
    let within : c.loop-k.k < length items = search rules in
    let is : was ≡ get_or items c.loop-k.k was = search rules in
    (crew_at _ _ _ _ _ _ items c.loop-k.invariant.crew c.loop-k.k was within is).stands

pub finish-requires-clause-stopped : goal.finish-requires-clause-stopped
finish-requires-clause-stopped g c =
    let items = c.loop-k.workers.items in
    let was = c.index_mut.result.now in
    let within : c.loop-k.k < length items = search rules in
    let is : was ≡ get_or items c.loop-k.k was = search rules in
    let stopped = stopped_same items c.args.workers.now.items c.loop-k.invariant.stops c.requires.stopped c.loop-k.k was within in
    λ same. stopped (ap (λ (w : WorkerBook). w.stop) (sym is) ∙ same)

pub loop-k-preserved : goal.loop-k-preserved
loop-k-preserved g c =
    let inv = c.loop-k.invariant in
    let items = c.loop-k.workers.items in
    let was = c.index_mut.result.now in
    let within : c.loop-k.k < length items = search rules in
    let is : was ≡ get_or items c.loop-k.k was = search rules in
    record {
      end = inv.end ∙ sym (length-set items c.loop-k.k c.finish.new.self);
      crew =
          crew_set _ _ _ _ _ _ items inv.crew c.loop-k.k was c.finish.new.self within is c.finish.ensures.worker c.finish.ensures.same (ap (λ s. barrier_of s) c.finish.ensures.seat);
      stops = map-set_same (λ (w : WorkerBook). w.stop) items c.loop-k.k c.finish.new.self was (c.finish.ensures.stop ∙ ap (λ (w : WorkerBook). w.stop) is) ∙ inv.stops;
      rings = map-set_same (λ (w : WorkerBook). w.outputs) items c.loop-k.k c.finish.new.self was (c.finish.ensures.same.outputs ∙ ap (λ (w : WorkerBook). w.outputs) is) ∙ inv.rings;
    }
