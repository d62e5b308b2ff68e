use Rattle.std.proofs.Common.{◌≡◌, ◌-◌, ◌++◌, length, map}
use Rattle.vg_ring.specs.Ends.{tx_ring}
use Rattle.vg_ring.specs.Rests.{rest_ring}
use Rattle.vg_workers.specs.Places.{AllWith}
use Rattle.vg_workers.specs.Closing.{Queues, AreOutputs, AreOpen, IsClosed, closed_pairs}
use Rattle.vg_workers.proofs.closing.close_from.Given as goal

abbrev pub invariant-loop-to : goal.invariant-loop-to
invariant-loop-to l = record {
  end : l.to-end ≡ length l.fn.inputs.items;
  count : length l.inputs.items ≡ length l.fn.inputs.items;
  rings : map rest_ring l.rests.items ++ map tx_ring l.outputs.items ≡ map rest_ring l.fn.rests.items ++ map tx_ring l.fn.outputs.items;
  so_far : (q : Queues) → AreOutputs q l.from 0 (length l.fn.inputs.items) l.fn.outputs.items → AreOpen q (length l.fn.inputs.items) l.from 0 (map (λ i. i.items) l.fn.inputs.items)
      → AreOutputs q l.from l.to (length l.fn.inputs.items - l.to) l.outputs.items × AreOpen q (length l.fn.inputs.items) l.from l.to (map (λ i. i.items) l.inputs.items)
      × (AllWith (IsClosed q) (closed_pairs (length l.fn.inputs.items) l.from 0) l.fn.rests.items → AllWith (IsClosed q) (closed_pairs (length l.fn.inputs.items) l.from l.to) l.rests.items);
}
