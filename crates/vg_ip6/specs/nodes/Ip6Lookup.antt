-- The visit of `ip6-lookup`: the route is chosen, that of the longest prefix that covers the destination (RFC 7608, section 2; RFC 4291,
-- section 2.3, for prefixes).
use Rattle.std.specs.Prelude.{if◌then◌else◌}
use Rattle.vg_model.specs.declared.kinds.DropError.TheVariants as errors
use Rattle.vg_model.specs.declared.kinds.Step.{Step}
use Rattle.vg_model.specs.Route.{best_route6}
use Rattle.vg_model.specs.Packet.{Packet}
use Rattle.vg_model.specs.Graph.{Graph}
use Rattle.vg_model.specs.Visit.{dropped, datagram, forwarded}
use Rattle.vg_ip6.specs.Header.{lacks_header, destination6, flow_hash6}

-- of several adjacencies the hash picks one
abbrev pub ip6_lookup : Graph → Packet → Step × Packet
ip6_lookup g p =
    let d = datagram p in
    if lacks_header d then dropped errors.Unchecked p
    else forwarded (best_route6 g.routes6 (destination6 d)) (flow_hash6 d) p
