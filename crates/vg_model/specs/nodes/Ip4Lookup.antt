-- The visit of `ip4-lookup`: the route is chosen (RFC 1812, section 5.2.4.3).
use Rattle.std.specs.Prelude.{ℕ, not, Option, Some, None, if◌then◌else◌}
use Rattle.vg_model.specs.declared.kinds.DropError.TheVariants as errors
use Rattle.vg_model.specs.declared.kinds.HashKind.TheVariants.{Flow}
use Rattle.vg_model.specs.declared.kinds.Step.{Step}
use Rattle.vg_model.specs.declared.routes.RouteTo.{RouteTo}
use Rattle.vg_model.specs.declared.routes.RouteTo.TheVariants as routes
use Rattle.vg_model.specs.Members.{member}
use Rattle.vg_model.specs.Route.{best_route}
use Rattle.vg_model.specs.Hash.{flow_hash}
use Rattle.vg_model.specs.Packet.{Packet}
use Rattle.vg_model.specs.Graph.{Graph}
use Rattle.vg_model.specs.nodes.Datagram.{datagram, destination}
use Rattle.vg_model.specs.nodes.Steps.{next, dropped}

-- what the target of the longest match makes of a packet; of several adjacencies a hash picks one
abbrev pub forwarded : Option RouteTo → ℕ → Packet → Step × Packet
forwarded None hash p = dropped errors.NoRoute p
forwarded (Some routes.Drop) hash p = dropped errors.RouteDrop p
forwarded (Some routes.Local) hash p = dropped errors.Local p
forwarded (Some (routes.Via members)) hash p = next (record p { adjacency = Some (member members hash) })

-- the route is chosen
abbrev pub ip4_lookup : Graph → Packet → Step × Packet
ip4_lookup g p =
    if not p.checked then dropped errors.Unchecked p
    else forwarded (best_route g.routes (destination (datagram p))) (flow_hash Flow p.bytes) p
