-- `put_ip6`, the lines of the routes of IPv6 at a neighbor: the loop over the routes.
use Rattle.std.proofs.Common.{take}
use Rattle.vg_model.specs.Route.{ip6}
use Rattle.vg_draw.specs.Prefixes.{prefix6_text, lines_over}
use Rattle.vg_draw.proofs.PrefixLemmas.{IsShown}
use Rattle.vg_draw.proofs.prefixes.put_ip6.Given as goal

abbrev pub invariant-loop-route : goal.invariant-loop-route
invariant-loop-route l = IsShown (lines_over ip6 prefix6_text l.number l.before (take l.route-index l.routes)) l.room l.initial.out.items l.out.items l.left
