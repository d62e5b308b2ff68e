-- Edits of the graph (this project's profile).
use Rattle.std.specs.Prelude.{ℕ, zero, suc, Bool, true, false, ◌||◌, ◌==◌, nat_le, List, [], ◌∷◌, ◌++◌, length, replicate, remove, slice_get, slice_set, bytes_eq, Option, Some, None, is_some, ok_or, Result, Ok, Err, if◌then◌else◌}
use Rattle.std.specs.List.{list_any, position_from}
use Rattle.vg_model.specs.declared.kinds.Kind.{Kind}
use Rattle.vg_model.specs.declared.kinds.Interface.{Interface}
use Rattle.vg_model.specs.declared.routes.Prefix.{Prefix}
use Rattle.vg_model.specs.declared.routes.Prefix6.{Prefix6}
use Rattle.vg_model.specs.declared.routes.RouteTo.{RouteTo}
use Rattle.vg_model.specs.declared.routes.RouteTo.TheVariants as routes
use Rattle.vg_model.specs.declared.routes.RouteWord.{RouteWord}
use Rattle.vg_model.specs.declared.routes.RouteWord.TheVariants as words
use Rattle.vg_model.specs.declared.names.Mac.{Mac}
use Rattle.vg_model.specs.declared.edits.Edit.{Edit}
use Rattle.vg_model.specs.declared.edits.EditLine.{EditLine}
use Rattle.vg_model.specs.declared.edits.Edit.TheVariants as edits
use Rattle.vg_model.specs.Route.{PrefixKind, RoutesOf, ip4, ip6, is_same}
use Rattle.vg_model.specs.Graph.{Graph, slots, is_source, next_nodes, error_drop}

-- why an edit is refused
pub data Cause : Type 0 where
  DoubleName : Cause
  UnknownNode : Cause
  UnknownSlot : Cause
  BadTarget : Cause
  Cycle : Cause
  TooMany : Cause
  UnknownInterface : Cause
  UnknownAdjacency : Cause
  NoRoute : Cause

-- the most nodes of a graph
abbrev pub most_nodes : ℕ
most_nodes = 64

-- the most interfaces
abbrev pub most_interfaces : ℕ
most_interfaces = 16

-- the most adjacencies
abbrev pub most_adjacencies : ℕ
most_adjacencies = 256

-- the most routes of each table
abbrev pub most_routes : ℕ
most_routes = 4096

-- a graph, or why there is none
abbrev pub Edited : Type 0
Edited = Result Graph Cause

-- the place of the first of this name
abbrev pub place_of : {X : Type 0} → (X → List ℕ) → List ℕ → List X → Option ℕ
place_of name_of name xs = position_from (λ x. bytes_eq (name_of x) name) 0 xs

-- the number of the node of this name
abbrev pub node_named : Graph → List ℕ → Option ℕ
node_named g name = place_of (λ n. n.name) name g.nodes

-- the number of the interface of this name
abbrev pub interface_named : Graph → List ℕ → Option ℕ
interface_named g name = place_of (λ i. i.name) name g.interfaces

-- the number of the adjacency of this name
abbrev pub adjacency_named : Graph → List ℕ → Option ℕ
adjacency_named g name = place_of (λ a. a.name) name g.adjacencies

-- the list with an entry changed in its place, or a new one at its end, of which so many may be there
abbrev pub placed : {X : Type 0} → ℕ → Option ℕ → X → List X → Result (List X) Cause
placed most (Some place) x xs = Ok (slice_set xs place x)
placed most None x xs = if nat_le most (length xs) then Err TooMany else Ok (xs ++ x ∷ [])

-- what follows a value; a cause stays
infixl 10 ◌>>=◌
abbrev pub ◌>>=◌ : {X Y : Type 0} → Result X Cause → (X → Result Y Cause) → Result Y Cause
(Ok x) >>= f = f x
(Err cause) >>= f = Err cause

-- refused with this cause where the test holds
abbrev pub refused_if : Bool → Cause → Result (Unit {0}) Cause
refused_if true cause = Err cause
refused_if false cause = Ok tt

-- an interface, new or changed
abbrev pub with_interface : Graph → Interface → Edited
with_interface g interface = do
  list ← placed most_interfaces (interface_named g interface.name) interface g.interfaces
  Ok (record g { interfaces = list })

-- a new node, whose slots lead to `error-drop`
abbrev pub with_node : Graph → List ℕ → Kind → Edited
with_node g name kind = do
  _ ← refused_if (is_some (node_named g name)) DoubleName
  list ← placed most_nodes None (record { name = name; kind = kind; arcs = replicate (length (slots kind)) error_drop }) g.nodes
  Ok (record g { nodes = list })

-- a walk of at most so many arcs leads from a node to another
abbrev pub leads : Graph → ℕ → ℕ → ℕ → Bool
leads g zero from to = from == to
leads g (suc arcs) from to = from == to || list_any (λ mid. leads g arcs mid to) (next_nodes g from)

-- an arc from a slot of a node to a node
abbrev pub with_arc : Graph → (from slot to : List ℕ) → Edited
with_arc g from slot to = do
  n ← ok_or (node_named g from) UnknownNode
  node ← ok_or (slice_get g.nodes n) UnknownNode
  s ← ok_or (place_of (λ slot. slot) slot (slots node.kind)) UnknownSlot
  m ← ok_or (node_named g to) UnknownNode
  target ← ok_or (slice_get g.nodes m) UnknownNode
  _ ← refused_if (is_source target.kind) BadTarget
  _ ← refused_if (leads g (length g.nodes) m n) Cycle
  Ok (record g { nodes = slice_set g.nodes n (record node { arcs = slice_set node.arcs s m }) })

-- an adjacency, new or changed
abbrev pub with_adjacency : Graph → (name interface : List ℕ) → Mac → Edited
with_adjacency g name interface mac = do
  i ← ok_or (interface_named g interface) UnknownInterface
  list ← placed most_adjacencies (adjacency_named g name) (record { name = name; interface = i; mac = mac }) g.adjacencies
  Ok (record g { adjacencies = list })

-- the place of a prefix among routes
abbrev pub place_in : {P : Type 0} → PrefixKind P → P → RoutesOf P → Option ℕ
place_in kind prefix routes = position_from (λ route. is_same kind route.0 prefix) 0 routes

-- among IPv4 routes
abbrev pub route_place : Prefix → List (Prefix × RouteTo) → Option ℕ
route_place prefix routes = place_in ip4 prefix routes

-- among IPv6 routes
abbrev pub route6_place : Prefix6 → List (Prefix6 × RouteTo) → Option ℕ
route6_place prefix routes = place_in ip6 prefix routes

-- the numbers of the adjacencies of these names, in order
abbrev pub members_of : Graph → List (List ℕ) → Result (List ℕ) Cause
members_of g [] = Ok []
members_of g (name ∷ names) = do
  a ← ok_or (adjacency_named g name) UnknownAdjacency
  others ← members_of g names
  Ok (a ∷ others)

-- where a route leads, with its adjacencies by number
abbrev pub target_of : Graph → RouteWord → Result RouteTo Cause
target_of g (words.Via names) = do
  members ← members_of g names
  Ok (routes.Via members)
target_of g words.Local = Ok routes.Local
target_of g words.Drop = Ok routes.Drop

-- a route, new or changed
abbrev pub with_route : Graph → Prefix → RouteWord → Edited
with_route g prefix word = do
  to ← target_of g word
  list ← placed most_routes (route_place prefix g.routes) (prefix, to) g.routes
  Ok (record g { routes = list })

-- a route taken out
abbrev pub without_route : Graph → Prefix → Edited
without_route g prefix = do
  place ← ok_or (route_place prefix g.routes) NoRoute
  Ok (record g { routes = remove g.routes place })

-- an IPv6 route, new or changed
abbrev pub with_route6 : Graph → Prefix6 → RouteWord → Edited
with_route6 g prefix word = do
  to ← target_of g word
  list ← placed most_routes (route6_place prefix g.routes6) (prefix, to) g.routes6
  Ok (record g { routes6 = list })

-- an IPv6 route taken out
abbrev pub without_route6 : Graph → Prefix6 → Edited
without_route6 g prefix = do
  place ← ok_or (route6_place prefix g.routes6) NoRoute
  Ok (record g { routes6 = remove g.routes6 place })

-- the graph after an edit, or why the edit is refused
abbrev pub apply : Graph → Edit → Edited
apply g (edits.Interface name mac mtu up filter) =
    with_interface g (record { name = name; mac = mac; mtu = mtu; up = up; filter = filter })
apply g (edits.Node name kind) = with_node g name kind
apply g (edits.Arc from slot to) = with_arc g from slot to
apply g (edits.Adjacency name interface mac) = with_adjacency g name interface mac
apply g (edits.Route prefix to) = with_route g prefix to
apply g (edits.Unroute prefix) = without_route g prefix
apply g (edits.Route6 prefix to) = with_route6 g prefix to
apply g (edits.Unroute6 prefix) = without_route6 g prefix

-- the graph after edits in their order, or the line and the cause of the first that is refused
abbrev pub apply_all : Graph → List EditLine → Result Graph (ℕ × Cause)
apply_all g [] = Ok g
apply_all g (e ∷ es) = elim (apply g e.edit) [ Ok after ↦ apply_all after es | Err cause ↦ Err (e.line, cause) ]
