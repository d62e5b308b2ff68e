-- Worked examples of edits that are refused, and of generations.
use Rattle.std.proofs.Common.{◌≡◌, ℕ, lit≤, List, [], ◌∷◌, map, refl}
use Rattle.std.specs.Prelude.{codes, Err, Some, None, option_map}
use Rattle.std.specs.Result.{result_ok}
use Rattle.std.specs.Fmt.{digits}
use Rattle.vg_model.specs.declared.kinds.Kind.TheVariants as kinds
use Rattle.vg_model.specs.declared.edits.Edit.{Edit}
use Rattle.vg_model.specs.declared.edits.EditLine.{EditLine}
use Rattle.vg_model.specs.declared.edits.Edit.TheVariants as edits
use Rattle.vg_model.specs.declared.routes.Prefix6.{Prefix6}
use Rattle.vg_model.specs.declared.routes.RouteWord.TheVariants as words
use Rattle.vg_model.specs.KindWord.{vlan}
use Rattle.vg_model.specs.Graph.{Graph, kind_entry, next_nodes}
use Rattle.vg_model.specs.Start.{start_graph}
use Rattle.vg_model.specs.Edit.{DoubleName, UnknownNode, UnknownSlot, BadTarget, Cycle, UnknownInterface, UnknownAdjacency, NoRoute, apply, apply_all}
use Rattle.vg_model.specs.Generations.{generations}
use Rattle.vg_model.proofs.Frames.{ip}
use Rattle.vg_model.proofs.ExampleGraphs.{lines_from, adjacency, prefix, everywhere, route}

-- an edit on a line
abbrev pub on_line : ℕ → Edit → EditLine
on_line line edit = record { line = line; edit = edit }

-- two edits at the start, and then a group without edits and two of one edit each
abbrev pub node_a : List EditLine
node_a = on_line 1 (edits.Node (codes "a") kinds.Pass) ∷ on_line 2 (edits.Arc (codes "a") (codes "out") (codes "ethernet-input")) ∷ []

-- the second group
abbrev pub source_to_a : List EditLine
source_to_a = on_line 6 (edits.Arc (codes "pg-input") (codes "out") (codes "a")) ∷ []

-- the third group, whose arc leads back to the first node
abbrev pub ethernet_to_a : List EditLine
ethernet_to_a = on_line 9 (edits.Arc (codes "ethernet-input") (codes "ip4") (codes "a")) ∷ []

-- the last arc would close a cycle over two nodes
cycle_over_two_nodes : generations node_a ([] ∷ source_to_a ∷ ethernet_to_a ∷ []) ≡ Err (9, Cycle)
cycle_over_two_nodes = refl

-- an arc to its own node is a cycle too
cycle_over_one_node : apply start_graph (edits.Arc (codes "ip4-input") (codes "lookup") (codes "ip4-input")) ≡ Err Cycle
cycle_over_one_node = refl

-- a slot of an unknown node, and an arc to one
arc_of_an_unknown_node : apply start_graph (edits.Arc (codes "nobody") (codes "out") (codes "error-drop")) ≡ Err UnknownNode
arc_of_an_unknown_node = refl

-- an arc leads to a node that is there
arc_to_an_unknown_node : apply start_graph (edits.Arc (codes "pg-input") (codes "out") (codes "nobody")) ≡ Err UnknownNode
arc_to_an_unknown_node = refl

-- a slot of another kind
arc_of_an_unknown_slot : apply start_graph (edits.Arc (codes "pg-input") (codes "ip4") (codes "error-drop")) ≡ Err UnknownSlot
arc_of_an_unknown_slot = refl

-- no arc leads into the packet source
arc_into_the_source : apply start_graph (edits.Arc (codes "ip4-input") (codes "lookup") (codes "pg-input")) ≡ Err BadTarget
arc_into_the_source = refl

-- a node's name stands once
node_twice : apply_all start_graph (lines_from 1 (edits.Node (codes "a") kinds.Pass ∷ edits.Node (codes "a") kinds.Pass ∷ [])) ≡ Err (2, DoubleName)
node_twice = refl

-- a neighbor is behind an interface that is there
adjacency_on_an_unknown_interface : apply start_graph (adjacency (codes "a") (codes "lan") 1) ≡ Err UnknownInterface
adjacency_on_an_unknown_interface = refl

-- a route leads over an adjacency that is there
route_over_an_unknown_adjacency : apply start_graph (route everywhere (codes "a")) ≡ Err UnknownAdjacency
route_over_an_unknown_adjacency = refl

-- a route that is not there cannot be taken out
unroute_of_no_route : apply start_graph (edits.Unroute (prefix (ip 10 0 0 0) 8 (lit≤ tt) refl)) ≡ Err NoRoute
unroute_of_no_route = refl

-- a second adjacency of a route that isn't there
route_over_an_unknown_second_adjacency :
    apply_all start_graph (lines_from 1 (adjacency (codes "a") (codes "pg0") 1 ∷ edits.Route everywhere (words.Via (codes "a" ∷ codes "b" ∷ [])) ∷ []))
    ≡ Err (2, UnknownAdjacency)
route_over_an_unknown_second_adjacency = refl

-- the prefix of all IPv6 addresses
abbrev everywhere6 : Prefix6
everywhere6 = record { addr = 0; len = 0; few = lit≤ tt; host_bits = refl }

-- an IPv4 route is no IPv6 route
unroute6_of_an_ip4_route : apply_all start_graph (lines_from 1 (edits.Route everywhere words.Drop ∷ edits.Unroute6 everywhere6 ∷ [])) ≡ Err (2, NoRoute)
unroute6_of_an_ip4_route = refl

-- a new node of two slots has two arcs, and both lead to `error-drop`
two_arcs_of_a_new_node : option_map (λ (g : Graph). next_nodes g 9) (result_ok (apply start_graph (edits.Node (codes "eth") kinds.EthernetDual))) ≡ Some (8 ∷ 8 ∷ [])
two_arcs_of_a_new_node = refl

-- the second slot counts where a cycle is looked for
cycle_over_a_second_slot : apply_all start_graph (lines_from 1 (edits.Node (codes "cut") (kinds.Dot1qMatch (vlan 100 tt tt))
    ∷ edits.Arc (codes "cut") (codes "else") (codes "ethernet-input") ∷ edits.Arc (codes "ethernet-input") (codes "ip4") (codes "cut") ∷ []))
    ≡ Err (3, Cycle)
cycle_over_a_second_slot = refl

-- words of kinds with a number: VLAN ids 1 to 4094, interfaces 0 to 15
words_with_a_number : map (λ kind. (kind_entry kind).word) (kinds.Dot1qMatch (vlan 1 tt tt) ∷ kinds.Dot1qPush (vlan 4094 tt tt) ∷ kinds.CrossConnect 15 ∷ [])
    ≡ Some (codes "dot1q-match-1") ∷ Some (codes "dot1q-push-4094") ∷ Some (codes "xconnect-15") ∷ []
unfolding digits
words_with_a_number = refl

-- beyond that there is none
no_words_beyond : (kind_entry (kinds.CrossConnect 16)).word ≡ None
no_words_beyond = refl
