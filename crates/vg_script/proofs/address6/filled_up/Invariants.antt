use Rattle.std.proofs.Common.{◌≡◌, ◌+◌, ◌-◌, ◌++◌, take, length, replicate}
use Rattle.vg_script.proofs.address6.filled_up.Given as goal

abbrev pub invariant-loop-zero : goal.invariant-loop-zero
invariant-loop-zero l = l.groups.items ≡ l.initial.groups.items ++ replicate (l._zero - (length l.initial.groups.items + length l.behind)) 0

abbrev pub invariant-loop-group : goal.invariant-loop-group
invariant-loop-group l = record {
  so_far : l.groups.items ≡ l.initial.groups.items ++ take l.group-index l.behind;
  eight : length l.initial.groups.items + length l.behind ≡ 8;
}
