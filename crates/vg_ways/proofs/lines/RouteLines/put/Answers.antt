-- For `RouteLines::put`: its clause.
use Rattle.std.proofs.lemmas.Result.{on_ok_weaker}
use Rattle.vg_ways.proofs.LineLemmas.{set_route, set_route6}
use Rattle.vg_ways.proofs.lines.RouteLines.put.Goals as goal

pub returns-in-Route : goal.returns-in-Route
returns-in-Route c = on_ok_weaker c.put_line.result (λ has. set_route c.args.edit.now c.in-Route.is has) c.put_line.ensures

pub returns-in-Route6 : goal.returns-in-Route6
returns-in-Route6 c = on_ok_weaker c.put_line6.result (λ has. set_route6 c.args.edit.now c.in-Route6.is has) c.put_line6.ensures
