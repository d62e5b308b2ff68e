-- For `stage_of`: its clause.
use Rattle.std.proofs.Common.{◌∙◌, ap}
use Rattle.vg_ways.specs.Lines.{lined}
use Rattle.vg_ways.specs.LinesView.{line_in, line6_in}
use Rattle.vg_ways.proofs.stages.stage_of.Goals as goal

pub returns : goal.returns
returns c = record {
  graph = c.in_ok-fork.ensures;
  routes = c.in_ok-routes.ensures ∙ ap (lined (line_in c.args.lines.now)) (c.routes.ensures.routes ∙ c.fib.ensures.routes);
  routes6 = c.in_ok-routes6.ensures ∙ ap (lined (line6_in c.args.lines.now)) (c.routes-2.ensures.routes ∙ c.fib6.ensures.routes);
}
