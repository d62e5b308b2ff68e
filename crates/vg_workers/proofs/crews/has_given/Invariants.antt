use Rattle.std.proofs.Common.{◌≡◌, ◌≢◌, ◌<◌, ℕ, length}
use Rattle.vg_journeys.specs.Accounts.{frames_with}
use Rattle.vg_workers.specs.Crews.{account_at}
use Rattle.vg_workers.proofs.crews.has_given.Given as goal

abbrev pub invariant-loop-to : goal.invariant-loop-to
invariant-loop-to g l =
    let ws = l.workers.items in
    (l.to-end ≡ length ws) × ((m : ℕ) → m < l.to → l.from ≢ m → length (frames_with m (account_at ws l.from).put) ≡ length (frames_with l.from (account_at ws m).taken))
