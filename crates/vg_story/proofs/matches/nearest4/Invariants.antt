-- For `nearest4`: its loop.
use Rattle.std.proofs.Common.{◌≡◌, ℕ, ◌<◌, ◌≤◌, false, get_or}
use Rattle.vg_model.specs.declared.routes.Prefix.{Prefix}
use Rattle.vg_model.specs.Route.{covers_of, ip4}
use Rattle.vg_story.proofs.matches.nearest4.Given as goal

-- the routes from this number on don't cover the address
abbrev pub invariant-loop-number : goal.invariant-loop-number
invariant-loop-number l = record {
  within : l.number ≤ l.begun;
  none : (k : ℕ) (d : Prefix × ℕ) → l.number ≤ k → k < l.begun → covers_of ip4 (get_or l.sorted k d).0 l.address ≡ false;
}

abbrev pub decreases-loop-number : goal.decreases-loop-number
decreases-loop-number l = l.number
