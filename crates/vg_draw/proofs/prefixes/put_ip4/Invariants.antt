-- `put_ip4`, the lines of the routes of IPv4 at a neighbor: the loop over the routes.
use Rattle.std.proofs.Common.{take}
use Rattle.vg_model.specs.Route.{ip4}
use Rattle.vg_draw.specs.Prefixes.{prefix_text, lines_over}
use Rattle.vg_draw.proofs.PrefixLemmas.{IsShown}
use Rattle.vg_draw.proofs.prefixes.put_ip4.Given as goal

abbrev pub invariant-loop-route : goal.invariant-loop-route
invariant-loop-route l = IsShown (lines_over ip4 prefix_text l.number l.before (take l.route-index l.routes)) l.room l.initial.out.items l.out.items l.left
