-- `put_routes6`, the commands for IPv6 routes: the loop over these.
use Rattle.std.proofs.Common.{◌≡◌, ◌++◌, take, flat_map}
use Rattle.vg_diff.specs.Linux.{route6_text}
use Rattle.vg_diff.proofs.linux.put_routes6.Given as goal

abbrev pub invariant-loop-route : goal.invariant-loop-route
invariant-loop-route l = l.out.items ≡ l.fn.out.items ++ flat_map (route6_text l.graph) (take l.route-index l.routes)
