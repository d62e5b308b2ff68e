use Rattle.std.proofs.Common.{◌+◌, ◌-◌, ◌<◌, ◌≤◌, length}
use Rattle.vg_fib.specs.Spans.{start_of}
use Rattle.vg_fib.proofs.spans.last.Given as goal

-- the place so far doesn't begin behind the address, and what was looked at behind it does
abbrev pub invariant-loop-next : goal.invariant-loop-next
invariant-loop-next l = record {
  inside : l.at < length l.starts;
  not_behind : start_of l.starts l.at ≤ l.address;
  ahead : l.at + l.step ≤ l.next;
  seen : l.at + l.step < l.next → l.at + l.step < length l.starts → l.address < start_of l.starts (l.at + l.step);
}

abbrev pub decreases-loop-next : goal.decreases-loop-next
decreases-loop-next l = l.end - l.next
