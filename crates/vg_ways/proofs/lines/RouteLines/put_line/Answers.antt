-- For `RouteLines::put_line`: its clause.
use Rattle.std.proofs.Common.{refl}
use Rattle.vg_ways.proofs.LineLemmas.{has_line}
use Rattle.vg_ways.proofs.lines.RouteLines.put_line.Goals as goal

pub returns : goal.returns
returns c = has_line _ _ c.args.prefix c.args.line c.in_ok-insert.ensures.updates refl
