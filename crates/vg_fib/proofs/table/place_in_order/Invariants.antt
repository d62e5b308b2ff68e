use Rattle.std.proofs.Common.{ℕ, ◌-◌, ◌<◌, ◌≤◌, length}
use Rattle.vg_model.specs.Route.{ip4}
use Rattle.vg_fib.specs.Order.{ranks, rank_at}
use Rattle.vg_fib.proofs.table.place_in_order.Given as goal

-- the places before `from` have lower ranks, and those from `to` on higher ones
abbrev pub invariant-loop-from : goal.invariant-loop-from
invariant-loop-from l = record {
  range : l.from ≤ l.to;
  inside : l.to ≤ length l.order;
  lower : (k : ℕ) → k < l.from → rank_at (ranks ip4 l.routes) l.order k < l.wanted;
  higher : (k : ℕ) → l.to ≤ k → k < length l.order → l.wanted < rank_at (ranks ip4 l.routes) l.order k;
}

abbrev pub decreases-loop-from : goal.decreases-loop-from
decreases-loop-from l = l.to - l.from
