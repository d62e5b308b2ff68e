use Rattle.std.proofs.Common.{◌≡◌, length}
use Rattle.vg_workers.specs.Linking.{AreLinkedUpTo}
use Rattle.vg_workers.proofs.links.link_from.Given as goal

abbrev pub invariant-loop-to : goal.invariant-loop-to
invariant-loop-to l = record {
  end : l.to-end ≡ length l.links.items;
  count : length l.links.items ≡ length l.fn.links.items;
  linked : AreLinkedUpTo l.slots l.from l.to l.to l.links.items;
}
