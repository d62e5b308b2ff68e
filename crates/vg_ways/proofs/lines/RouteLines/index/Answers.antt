-- For `RouteLines::index`: what a call requires.
use Rattle.std.proofs.Common.{subst, sym}
use Rattle.vg_model.specs.Route.{ip4}
use Rattle.vg_fib.proofs.PrefixLemmas.{are4}
use Rattle.vg_story.specs.Matches.{HasOneLineEach}
use Rattle.vg_ways.specs.LinesView.{line_in}
use Rattle.vg_ways.proofs.LineLemmas.{lined_once}
use Rattle.vg_ways.proofs.lines.RouteLines.index.Goals as goal

pub of-requires-2 : goal.of-requires-2
of-requires-2 c = subst (HasOneLineEach ip4) (sym c.in_ok-lined.ensures) (lined_once are4 (line_in c.args.self.now) c.args.routes.now)
