-- For `around6`: its loop.
use Rattle.std.proofs.Common.{◌≡◌, length}
use Rattle.vg_model.specs.Route.{ip6}
use Rattle.vg_story.specs.Matches.{AreAround}
use Rattle.vg_story.proofs.matches6.around6.Given as goal

-- the numbers of the routes so far
abbrev pub invariant-loop-route : goal.invariant-loop-route
invariant-loop-route l = record {
  nested : AreAround ip6 l.sorted l.around.items;
  count : length l.around.items ≡ l.route-index;
}
