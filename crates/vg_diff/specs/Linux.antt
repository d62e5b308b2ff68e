-- The commands that make the kernel's router of a script's first graph, and comments on what they can't say.
use Rattle.std.specs.Prelude.{ℕ, zero, suc, ◌+◌, ◌%◌, Bool, true, false, not, ◌&&◌, ◌==◌, nat_le, List, [], ◌∷◌, ◌++◌, length, flat_map, count_by, slice_get, slice_index, codes, decimal, Option, Some, None, is_none, option_and_then, if◌then◌else◌}
use Rattle.std.specs.List.{list_all}
use Rattle.std.specs.Option.{option_map_or}
use Rattle.vg_model.specs.declared.edits.Edit.{Edit}
use Rattle.vg_model.specs.declared.edits.Edit.TheVariants as edits
use Rattle.vg_model.specs.declared.edits.EditLine.{EditLine}
use Rattle.vg_model.specs.declared.kinds.Adjacency.{Adjacency}
use Rattle.vg_model.specs.declared.kinds.Interface.{Interface}
use Rattle.vg_model.specs.declared.names.Mac.{Mac}
use Rattle.vg_model.specs.declared.routes.Prefix.{Prefix}
use Rattle.vg_model.specs.declared.routes.Prefix6.{Prefix6}
use Rattle.vg_model.specs.declared.routes.RouteTo.{RouteTo}
use Rattle.vg_model.specs.declared.routes.RouteTo.TheVariants as targets
use Rattle.vg_model.specs.Graph.{Graph}
use Rattle.vg_plan.specs.Plan.{Planned}
use Rattle.vg_script.specs.declared.scripts.Block.{Block}
use Rattle.vg_script.specs.declared.scripts.Block.TheVariants as blocks
use Rattle.vg_script.specs.declared.scripts.Script.{Script}
use Rattle.vg_script.specs.Plain.{mac_text, address_text, prefix_text, group_text, prefix6_text}
use Rattle.vg_diff.specs.declared.reach.Version.{Version}
use Rattle.vg_diff.specs.declared.reach.Version.TheVariants.{Ip4, Ip6}

-- ---- comments

-- a line
abbrev pub line_text : List ℕ → List ℕ
line_text text = text ++ 10 ∷ []

-- a comment on something of this name
abbrev pub remark_text : (name remark : List ℕ) → List ℕ
remark_text name remark = codes "# " ++ (name ++ (32 ∷ (remark ++ 10 ∷ [])))

-- a comment on a line of the script: its beginning, and all of it, with what the line has
abbrev pub line_begin : (line : ℕ) → List ℕ
line_begin line = codes "# line " ++ (decimal line ++ codes " of the script has ")

abbrev pub line_remark : (line : ℕ) → (what : List ℕ) → List ℕ
line_remark line what = line_begin line ++ (what ++ (codes ", which ip can't say" ++ 10 ∷ []))

-- the setting that lets the kernel forward at all
unfoldable pub forwarding_line : List ℕ
forwarding_line = line_text (codes "# sysctl -w net.ipv4.ip_forward=1 net.ipv6.conf.all.forwarding=1")

-- what the kernel does besides: what it answers, to which addresses it forwards nothing, and how it chooses
unfoldable pub answers_line : List ℕ
answers_line = line_text (codes "# the kernel's router answers a packet whose time to live expires by an ICMP error of its own")

unfoldable pub addresses_line : List ℕ
addresses_line = line_text (codes "# it forwards nothing to addresses as 127.0.0.1, 224.0.0.1 and 255.255.255.255, whatever the routes say")

unfoldable pub choice_line : List ℕ
choice_line = line_text (codes "# it chooses among several neighbors of a route by a hash of its own")

-- the first lines
abbrev pub head : List ℕ
head = forwarding_line ++ (answers_line ++ (addresses_line ++ choice_line))

-- ---- interfaces

-- all these bytes are 0
abbrev pub are_zeros : List ℕ → Bool
are_zeros bytes = list_all (λ byte. byte == 0) bytes

-- an interface can have an address: it is no group's, and not all zeros
abbrev pub is_station : Mac → Bool
is_station mac = slice_index mac.0 0 % 2 == 0 && not (are_zeros mac.0)

-- ip can say an interface: its name has at most 15 letters, and it can have its address
abbrev pub is_sayable : Interface → Bool
is_sayable interface = nat_le (length interface.name) 15 && is_station interface.mac

-- the word for an interface that is up, or for one that is down
abbrev pub up_word : Bool → List ℕ
up_word up = if up then codes " up" else codes " down"

-- the command for an interface: first its name and its address, then its mtu and whether it is up
abbrev pub link_begin : (name : List ℕ) → List ℕ
link_begin name = codes "ip link set dev " ++ (name ++ codes " address ")

abbrev pub link_text : Interface → List ℕ
link_text interface = link_begin interface.name ++ mac_text interface.mac

abbrev pub state_text : Interface → List ℕ
state_text interface = codes " mtu " ++ (decimal interface.mtu ++ (up_word interface.up ++ 10 ∷ []))

-- a comment on an interface without `filter`
abbrev pub filter_text : Interface → List ℕ
filter_text interface =
    if interface.filter then [] else remark_text interface.name (codes "takes frames to every address; the kernel's router takes those to its own")

-- the command, and the comment; or a comment in its place
abbrev pub interface_text : Interface → List ℕ
interface_text interface =
    if is_sayable interface
    then link_text interface ++ (state_text interface ++ filter_text interface)
    else remark_text interface.name (codes "has a name of more than 15 letters or an address of no station, which ip can't say")

-- the command for the interface of a number
abbrev pub interface_at : Graph → ℕ → List ℕ
interface_at graph number = option_map_or interface_text (slice_get graph.interfaces number) []

-- ---- neighbors

-- the kernel sends by this version over an interface: by IPv6 where it takes 1280 bytes
abbrev pub carries : Version → Interface → Bool
carries Ip4 interface = true
carries Ip6 interface = nat_le 1280 interface.mtu

-- the kernel sends by this version over an interface, which ip can say and which is up
abbrev pub is_open : Version → Interface → Bool
is_open version interface = interface.up && (is_sayable interface && carries version interface)

-- the name of an interface that is open
abbrev pub name_if_open : Version → Interface → Option (List ℕ)
name_if_open version interface = if is_open version interface then Some interface.name else None

-- the interface of a number, where it is open
abbrev pub open_at : Version → Graph → ℕ → Option (List ℕ)
open_at version graph number = option_and_then (name_if_open version) (slice_get graph.interfaces number)

-- the interface of the neighbor of a number, where it is open
abbrev pub interface_of : Version → Graph → ℕ → Option (List ℕ)
interface_of version graph number =
    option_and_then (λ (adjacency : Adjacency). open_at version graph adjacency.interface) (slice_get graph.adjacencies number)

-- the address of the neighbor of a number: 198.18.0.1, or fe80::1, for the first
abbrev pub neighbor_address : Version → ℕ → List ℕ
neighbor_address Ip4 number = address_text (0xc6120001 + number)
neighbor_address Ip6 number = codes "fe80::" ++ group_text (number + 1)

-- the command that sets an address of a neighbor: first the address, then the link-layer address, then the interface
abbrev pub neighbor_begin : Version → ℕ → List ℕ
neighbor_begin version number = codes "ip neighbor replace " ++ (neighbor_address version number ++ codes " lladdr ")

abbrev pub neighbor_link : Version → ℕ → Mac → List ℕ
neighbor_link version number mac = neighbor_begin version number ++ mac_text mac

abbrev pub neighbor_text : Version → ℕ → Mac → (interface : List ℕ) → List ℕ
neighbor_text version number mac interface = neighbor_link version number mac ++ (codes " dev " ++ (interface ++ (codes " nud permanent" ++ 10 ∷ [])))

-- the command that sets the address of one version, where its interface is open; else a comment
abbrev pub closed_text : Version → List ℕ
closed_text Ip4 = codes "is behind an interface which isn't up"
closed_text Ip6 = codes "has no IPv6: its interface isn't up, or has an mtu below 1280"

abbrev pub neighbor_behind : Version → ℕ → Adjacency → Option (List ℕ) → List ℕ
neighbor_behind version number adjacency None = remark_text adjacency.name (closed_text version)
neighbor_behind version number adjacency (Some interface) = neighbor_text version number adjacency.mac interface

-- both
abbrev pub neighbor_both : Graph → ℕ → Adjacency → List ℕ
neighbor_both graph number adjacency =
    neighbor_behind Ip4 number adjacency (interface_of Ip4 graph number) ++ neighbor_behind Ip6 number adjacency (interface_of Ip6 graph number)

-- the commands for the neighbor of a number
abbrev pub neighbor_at : Graph → ℕ → List ℕ
neighbor_at graph number = option_map_or (neighbor_both graph number) (slice_get graph.adjacencies number) []

-- ---- routes

-- the beginning of a command that sets a route
abbrev pub route_begin : Version → List ℕ
route_begin Ip4 = codes "ip route replace "
route_begin Ip6 = codes "ip -6 route replace "

-- the way over a neighbor behind this interface, behind a word
abbrev pub way_over : Version → (begin : List ℕ) → ℕ → (interface : List ℕ) → List ℕ
way_over version begin number interface = begin ++ (codes " via " ++ (neighbor_address version number ++ (codes " dev " ++ (interface ++ codes " onlink"))))

-- the way over the neighbor of a number, where its interface is open
abbrev pub way_text : Version → Graph → (begin : List ℕ) → ℕ → List ℕ
way_text version graph begin number = option_map_or (way_over version begin number) (interface_of version graph number) []

-- the word for each way, where there are several
abbrev pub way_begin : List ℕ → List ℕ
way_begin members = if length members == 1 then [] else codes " nexthop"

-- the interface of the neighbor of a number isn't open
abbrev pub is_closed : Version → Graph → ℕ → Bool
is_closed version graph number = is_none (interface_of version graph number)

-- the word of a route over neighbors whose interfaces are none of them open
abbrev pub hole_word : Version → Graph → List ℕ → List ℕ
hole_word version graph members = if list_all (is_closed version graph) members then codes "blackhole " else []

-- the ways over neighbors, each behind a word
abbrev pub ways_text : Version → Graph → (begin members : List ℕ) → List ℕ
ways_text version graph begin members = flat_map (λ number. way_text version graph begin number) members

-- the command that sets a route over neighbors
abbrev pub route_over : Version → Graph → (prefix members : List ℕ) → List ℕ
route_over version graph prefix members =
    route_begin version ++ (hole_word version graph members ++ (prefix ++ (ways_text version graph (way_begin members) members ++ 10 ∷ [])))

-- a number stands once among these; each of them does
abbrev pub stands_once : List ℕ → ℕ → Bool
stands_once members number = count_by (λ member. member == number) members == 1

abbrev pub stand_once : List ℕ → Bool
stand_once members = list_all (stands_once members) members

-- ip can say a route over neighbors: by IPv6 where each stands once
abbrev pub is_sayable_over : Version → List ℕ → Bool
is_sayable_over Ip4 members = true
is_sayable_over Ip6 members = stand_once members

-- the command for it, or a comment in its place
abbrev pub via_text : Version → Graph → (prefix members : List ℕ) → List ℕ
via_text version graph prefix members =
    if is_sayable_over version members then route_over version graph prefix members else remark_text prefix (codes "has a neighbor twice, which ip can't say")

-- the command that sets a route to this host: in the table of the others, or else it is asked first
abbrev pub local_text : Version → (prefix : List ℕ) → List ℕ
local_text version prefix = route_begin version ++ (codes "local " ++ (prefix ++ line_text (codes " dev lo table main")))

-- the command that sets the route of a prefix
abbrev pub route_text : Version → Graph → (prefix : List ℕ) → RouteTo → List ℕ
route_text version graph prefix (targets.Via members) = via_text version graph prefix members
route_text version graph prefix targets.Local = local_text version prefix
route_text version graph prefix targets.Drop = route_begin version ++ (codes "blackhole " ++ (prefix ++ 10 ∷ []))

-- the same for a route of the table of IPv4, and of that of IPv6
abbrev pub route4_text : Graph → Prefix × RouteTo → List ℕ
route4_text graph route = route_text Ip4 graph (prefix_text route.0) route.1

abbrev pub route6_text : Graph → Prefix6 × RouteTo → List ℕ
route6_text graph route = route_text Ip6 graph (prefix6_text route.0) route.1

-- ---- what no command says

-- a comment on an edit which no command stands for
abbrev pub remark_on : (line : ℕ) → Edit → List ℕ
remark_on line (edits.Node name kind) = line_remark line (codes "a node")
remark_on line (edits.Arc from slot to) = line_remark line (codes "an arc")
remark_on line edit = []

-- those on edits outside blocks
abbrev pub edit_remarks : List EditLine → List ℕ
edit_remarks lines = flat_map (λ (line : EditLine). remark_on line.line line.edit) lines

-- the line on which a block begins
abbrev pub block_line : Block → ℕ
block_line (blocks.At line time edits) = line
block_line (blocks.Process line name every count groups) = line

-- a comment on each block
abbrev pub block_remarks : List Block → List ℕ
block_remarks all = flat_map (λ (block : Block). line_remark (block_line block) (codes "a block")) all

-- on all statements of a script
abbrev pub remarks_text : Script → List ℕ
remarks_text script = edit_remarks script.start ++ block_remarks script.blocks

-- ---- all lines

-- the texts of the numbers below this, one behind the other
abbrev pub of_each : (ℕ → List ℕ) → ℕ → List ℕ
of_each text zero = []
of_each text (suc count) = of_each text count ++ text count

-- the commands for the interfaces of a graph, and for its neighbors, by their numbers
abbrev pub interfaces_text : Graph → List ℕ
interfaces_text graph = of_each (interface_at graph) (length graph.interfaces)

abbrev pub neighbors_text : Graph → List ℕ
neighbors_text graph = of_each (neighbor_at graph) (length graph.adjacencies)

-- those for all of a graph
abbrev pub graph_text : Graph → List ℕ
graph_text graph = interfaces_text graph ++ (neighbors_text graph ++ (flat_map (route4_text graph) graph.routes ++ flat_map (route6_text graph) graph.routes6))

-- those for the first graph of a plan
abbrev pub first_text : Planned → List ℕ
first_text plan = option_map_or graph_text (slice_get plan.graphs 0) []

-- all that is printed for a plan
abbrev pub commands_text : Planned → List ℕ
commands_text plan = head ++ (first_text plan ++ remarks_text plan.script)
