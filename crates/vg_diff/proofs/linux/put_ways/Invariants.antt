-- `put_ways`, the ways over neighbors: the loop over these.
use Rattle.std.proofs.Common.{◌≡◌, ◌++◌, take, flat_map}
use Rattle.vg_diff.specs.Linux.{way_text}
use Rattle.vg_diff.proofs.linux.put_ways.Given as goal

abbrev pub invariant-loop-member : goal.invariant-loop-member
invariant-loop-member l = l.out.items ≡ l.fn.out.items ++ flat_map (λ number. way_text l.version l.graph l.begin number) (take l.member-index l.members)
