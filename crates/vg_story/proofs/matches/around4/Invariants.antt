-- For `around4`: its loop.
use Rattle.std.proofs.Common.{◌≡◌, length}
use Rattle.vg_model.specs.Route.{ip4}
use Rattle.vg_story.specs.Matches.{AreAround}
use Rattle.vg_story.proofs.matches.around4.Given as goal

-- the numbers of the routes so far
abbrev pub invariant-loop-route : goal.invariant-loop-route
invariant-loop-route l = record {
  nested : AreAround ip4 l.sorted l.around.items;
  count : length l.around.items ≡ l.route-index;
}
