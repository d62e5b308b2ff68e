use Rattle.std.proofs.Common.{◌≡◌, ◌+◌, ◌≤◌, ℕ, length, vec_len, vec_capacity}
use Rattle.std.specs.List.{AllByRecursion}
use Rattle.std.specs.Vec.Iter.{into_iter_items, into_iter_len}
use Rattle.vg_steps.specs.Seated.{TableId}
use Rattle.vg_ring.specs.Ends.{put, tx_ring, tx_slots}
use Rattle.vg_backlog.specs.Books.{accepted_by}
use Rattle.vg_engine.specs.Places.{AllAt}
use Rattle.vg_engine.specs.Linked.{IsLinked}
use Rattle.vg_top.specs.Lossless.{ring_of, slots_of, HoldsBack}
use Rattle.vg_top.proofs.lossless.lossless_links.Given as goal

abbrev pub invariant-loop-links : goal.invariant-loop-links
invariant-loop-links l = record {
  count : length l.workers.items + into_iter_len l.links-iterator ≡ l.options.workers;
  room : vec_len l.workers + into_iter_len l.links-iterator ≤ vec_capacity l.workers;
  linked : (ring : ℕ → ℕ → TableId)
      × AllAt (λ own k. IsLinked put tx_ring tx_slots l.options.queue ring own l.options.workers l.options.workers k) (length l.workers.items) (into_iter_items l.links-iterator)
      × AllAt (λ own k. IsLinked accepted_by ring_of slots_of l.options.queue ring own l.options.workers l.options.workers k) 0 l.workers.items;
  held : AllByRecursion (HoldsBack l.options) l.workers.items;
}
