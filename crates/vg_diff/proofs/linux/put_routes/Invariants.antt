-- `put_routes`, the commands for IPv4 routes: the loop over these.
use Rattle.std.proofs.Common.{◌≡◌, ◌++◌, take, flat_map}
use Rattle.vg_diff.specs.Linux.{route4_text}
use Rattle.vg_diff.proofs.linux.put_routes.Given as goal

abbrev pub invariant-loop-route : goal.invariant-loop-route
invariant-loop-route l = l.out.items ≡ l.fn.out.items ++ flat_map (route4_text l.graph) (take l.route-index l.routes)
