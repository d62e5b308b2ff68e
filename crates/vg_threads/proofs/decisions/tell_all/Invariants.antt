use Rattle.std.proofs.Common.{◌≡◌, ◌++◌, length, map, take, drop}
use Rattle.vg_threads.specs.Renewals.{told}
use Rattle.vg_threads.proofs.decisions.tell_all.Given as goal

abbrev pub invariant-loop-k : goal.invariant-loop-k
invariant-loop-k l =
    let before = l.fn.held.parcels.items in
    (l.held.main ≡ l.fn.held.main) × (l.k-end ≡ length before) × (l.held.parcels.items ≡ map (told l.stop) (take l.k before) ++ drop l.k before)
