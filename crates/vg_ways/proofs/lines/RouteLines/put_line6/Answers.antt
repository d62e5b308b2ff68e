-- For `RouteLines::put_line6`: its clause.
use Rattle.std.proofs.Common.{refl}
use Rattle.vg_ways.proofs.LineLemmas.{has_line6}
use Rattle.vg_ways.proofs.lines.RouteLines.put_line6.Goals as goal

pub returns : goal.returns
returns c = has_line6 _ _ c.args.prefix c.args.line c.in_ok-insert.ensures.updates refl
