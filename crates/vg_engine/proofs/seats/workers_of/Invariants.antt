use Rattle.std.proofs.Common.{◌≡◌, ◌+◌, ℕ, length, ◌++◌, map}
use Rattle.std.specs.Vec.Iter.{into_iter_items, into_iter_len}
use Rattle.std.specs.List.{AllByRecursion}
use Rattle.vg_steps.specs.Seated.{TableId}
use Rattle.vg_model.specs.PoolBook.{empty_cache}
use Rattle.vg_plan.specs.Plan.{windows}
use Rattle.vg_dispatch.specs.Standing.{barrier_id}
use Rattle.vg_workers.specs.Places.{AllAt}
use Rattle.vg_workers.specs.Crews.{IsMember}
use Rattle.vg_workers.specs.Linked.{IsLinked}
use Rattle.vg_engine.specs.Seats.{IsFirstSeat}
use Rattle.vg_engine.proofs.seats.workers_of.Given as goal

abbrev pub invariant-loop-link : goal.invariant-loop-link
invariant-loop-link g l = record {
  count : length l.workers.items + into_iter_len l.link-iterator ≡ l.input.options.now.workers;
  rings : map (λ w. w.outputs) l.workers.items ++ map (λ k. map g.H.Handoff.ring k.outputs.items) (into_iter_items l.link-iterator) ≡ map (λ k. map g.H.Handoff.ring k.outputs.items) l.fn.links.workers.items;
  caches_left : into_iter_len l.caches ≡ into_iter_len l.link-iterator;
  seats_left : into_iter_len l.seats ≡ into_iter_len l.link-iterator;
  caches_are : AllByRecursion (λ cache. cache ≡ empty_cache) (into_iter_items l.caches);
  seats_are : AllAt (IsFirstSeat (windows l.input.plan.now l.input.capture.now) (barrier_id l.barrier)) (length l.workers.items) (into_iter_items l.seats);
  linked : (ring : ℕ → ℕ → TableId)
      × AllAt (λ own k. IsLinked g.H.Handoff.accepted g.H.Handoff.ring g.H.Handoff.slots l.input.options.now.queue ring own l.input.options.now.workers l.input.options.now.workers k)
      (length l.workers.items) (into_iter_items l.link-iterator)
      × AllAt (IsMember g.K.KindSet.meaning g.H.Handoff.LOSSLESS l.input.plan.now l.input.capture.now l.input.options.now (barrier_id l.barrier) ring) 0 l.workers.items;
}
