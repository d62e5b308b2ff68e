use Rattle.std.proofs.Common.{◌≡◌, ◌<◌, ℕ, length}
use Rattle.vg_workers.specs.Crews.{HasGiven}
use Rattle.vg_workers.proofs.crews.are_done.Given as goal

abbrev pub invariant-loop-from : goal.invariant-loop-from
invariant-loop-from g l = (l.from-end ≡ length l.workers.items) × ((m : ℕ) → m < l.from → HasGiven l.workers.items m)
