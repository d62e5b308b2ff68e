use Rattle.std.proofs.Common.{◌≡◌, ◌+◌, ◌++◌, length, map}
use Rattle.std.specs.Prelude.{flat_map}
use Rattle.vg_ring.specs.Ends.{tx_ring}
use Rattle.vg_ring.specs.Rests.{rest_ring}
use Rattle.std.specs.Vec.Iter.{into_iter_items, into_iter_len}
use Rattle.vg_workers.specs.Places.{AllAt, AllWith}
use Rattle.vg_workers.specs.Closing.{Queues, AreEnds, AreOutputs, AreOpen, IsClosed, closed_pairs}
use Rattle.vg_workers.proofs.closing.close_all.Given as goal

abbrev pub invariant-loop-ends : goal.invariant-loop-ends
invariant-loop-ends l = record {
  count : l.from + into_iter_len l.ends-iterator ≡ length l.fn.outputs.items;
  many : length l.inputs.items ≡ length l.fn.outputs.items;
  rings : map rest_ring l.rests.items ++ flat_map (λ o. map tx_ring o.items) (into_iter_items l.ends-iterator) ≡ flat_map (λ o. map tx_ring o.items) l.fn.outputs.items;
  so_far : (q : Queues) → AreEnds q (map (λ o. o.items) l.fn.outputs.items) (map (λ i. i.items) l.fn.inputs.items)
      → AllAt (λ own e. AreOutputs q own 0 (length l.fn.outputs.items) e) l.from (map (λ o. o.items) (into_iter_items l.ends-iterator))
      × AreOpen q (length l.fn.outputs.items) l.from 0 (map (λ i. i.items) l.inputs.items)
      × AllWith (IsClosed q) (closed_pairs (length l.fn.outputs.items) l.from 0) l.rests.items;
}
