-- For `RouteLines::index6`: what a call requires.
use Rattle.std.proofs.Common.{subst, sym}
use Rattle.vg_model.specs.Route.{ip6}
use Rattle.vg_fib.proofs.PrefixLemmas.{are6}
use Rattle.vg_story.specs.Matches.{HasOneLineEach}
use Rattle.vg_ways.specs.LinesView.{line6_in}
use Rattle.vg_ways.proofs.LineLemmas.{lined_once}
use Rattle.vg_ways.proofs.lines.RouteLines.index6.Goals as goal

pub of-requires : goal.of-requires
of-requires c = subst (HasOneLineEach ip6) (sym c.in_ok-lined.ensures) (lined_once are6 (line6_in c.args.self.now) c.args.routes.now)
