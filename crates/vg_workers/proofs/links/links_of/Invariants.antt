use Rattle.std.proofs.Common.{◌≡◌, length}
use Rattle.vg_workers.specs.Linking.{AreLinkedUpTo}
use Rattle.vg_workers.proofs.links.links_of.Given as goal

abbrev pub invariant-loop-from : goal.invariant-loop-from
invariant-loop-from l = record {
  end : l.from-end ≡ length l.links.items;
  count : length l.links.items ≡ l.workers;
  linked : AreLinkedUpTo l.slots l.from 0 0 l.links.items;
}
