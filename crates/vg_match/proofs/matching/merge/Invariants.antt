use Rattle.std.proofs.Common.{◌+◌, ◌-◌, ◌≤◌, length, map, drop}
use Rattle.vg_match.specs.Matching.{entry_of}
use Rattle.vg_match.proofs.MergeLemmas.{IsPass}
use Rattle.vg_match.proofs.matching.merge.Given as goal

abbrev pub invariant-loop-next : goal.invariant-loop-next
invariant-loop-next l =
    (l.next ≤ length l.wanted) × (l.coming ≤ length l.got)
    × IsPass (map entry_of l.wanted) (map entry_of l.got) (record {
      pairs = l.pairs.items;
      missing = l.missing.items;
      extra = l.extra.items;
      wanted = drop l.next (map entry_of l.wanted);
      got = drop l.coming (map entry_of l.got);
    })

abbrev pub decreases-loop-next : goal.decreases-loop-next
decreases-loop-next l = (length l.wanted - l.next) + (length l.got - l.coming)
