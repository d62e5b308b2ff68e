-- For `RouteLines::first`: its clause.
use Rattle.vg_ways.proofs.LineLemmas.{first_lines}
use Rattle.vg_ways.proofs.lines.RouteLines.first.Goals as goal

pub returns : goal.returns
returns c = first_lines c.args.script.now c.new-lines.result c.put_all.new.self c.new-lines.ensures.four c.new-lines.ensures.six c.in_ok-put_all.ensures
