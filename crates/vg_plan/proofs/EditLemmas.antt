-- For `edit_graph`, `set_route` and `remove_route` of a master: edits of a whole graph, by its lists and its table of routes.
use Rattle.std.proofs.Common.{◌≡◌, ℕ, zero, suc, ◌<◌, ◌≤◌, ◌||◌, ◌==◌, Bool, true, false, List, [], ◌∷◌, ◌++◌, drop, length, refl, sym, ap, subst, ◌∙◌, inl, inr, arith}
use Rattle.std.specs.Prelude.{Option, Some, None, ok_or, Result, Ok, Err, IfErr, IsErr, IsOk, MatchOption, OnErr, IfOk, remove, replicate, is_some, slice_get, slice_set}
use Rattle.std.specs.List.{AllByRecursion, list_any}
use Rattle.vg_model.specs.declared.edits.Edit.{Edit}
use Rattle.vg_model.specs.declared.edits.Edit.TheVariants as edits
use Rattle.vg_model.specs.declared.kinds.Kind.{Kind}
use Rattle.vg_model.specs.declared.kinds.Interface.{Interface}
use Rattle.vg_model.specs.declared.names.Mac.{Mac}
use Rattle.vg_model.specs.declared.routes.Prefix.{Prefix}
use Rattle.vg_model.specs.declared.routes.Prefix6.{Prefix6}
use Rattle.vg_model.specs.declared.routes.RouteTo.{RouteTo}
use Rattle.vg_model.specs.declared.routes.RouteTo.TheVariants as routes
use Rattle.vg_model.specs.declared.kinds.Adjacency.{Adjacency}
use Rattle.vg_model.specs.Graph.{Graph, Node, next_nodes, slots, error_drop, is_source}
use Rattle.vg_model.specs.Valid.{IsRouteWithin}
use Rattle.vg_model.specs.Edit.{Cause, Edited, ◌>>=◌, most_interfaces, most_nodes, most_adjacencies, most_routes, node_named, interface_named, adjacency_named, place_of, placed, refused_if, place_in}
use Rattle.vg_model.specs.Edit.{DoubleName, UnknownNode, UnknownSlot, BadTarget, Cycle, UnknownInterface, leads, with_interface, with_node, with_arc, with_adjacency, members_of, apply}
use Rattle.vg_model.specs.Route.{PrefixKind, RoutesOf, ip4, ip6}
use Rattle.vg_script.specs.declared.errors.ScriptCause.{ScriptCause}
use Rattle.vg_script.specs.declared.errors.ScriptCause.TheVariants as script_causes
use Rattle.vg_script.specs.Reading.{refused}
use Rattle.vg_script.specs.Causes.{cause_of}
use Rattle.vg_graph.specs.declared.errors.GraphError.{GraphError}
use Rattle.vg_graph.specs.Refusals.{IsGraphEdit, IsRefusedBy, Answers, cause_of as cause_of_graph}
use Rattle.vg_graph.specs.View.{IsKept}
use Rattle.vg_graph.proofs.ListLemmas.{all_weaken, IsPlaced, placed_is, placed_all, placed_more}
use Rattle.vg_fib.specs.declared.table.FibError.{FibError}
use Rattle.vg_fib.specs.declared.table.NoSuchRoute.{NoSuchRoute}
use Rattle.vg_fib.specs.Table.{Routes, Routes6, IsTable}
use Rattle.vg_fib.proofs.PrefixLemmas.{ArePrefixes, are4, are6}
use Rattle.vg_fib.proofs.TableLemmas.{table_set, table_push, table_remove, place_within}
use Rattle.vg_model.specs.Graph.{with_routes}
use Rattle.vg_plan.specs.Plan.{IsGeneration}
use Rattle.vg_plan.specs.Refusals.{IsCauseOf}

-- an answer, with something made of the graph
abbrev pub made : (Graph → Graph) → Edited → Edited
made f (Ok g) = Ok (f g)
made f (Err cause) = Err cause

-- what follows a value, with something made of the graph
made_then : {X : Type 0} (f : Graph → Graph) (found : Result X Cause) (next : X → Edited) → made f (found >>= next) ≡ (found >>= (λ x. made f (next x)))
made_then f (Ok x) next = refl
made_then f (Err cause) next = refl

-- an edit with something made of the graph that it leaves
interface_made : (f : Graph → Graph) (g : Graph) (interface : Interface)
    → (placed most_interfaces (interface_named g interface.name) interface g.interfaces >>= (λ list. Ok (f (record g { interfaces = list })))) ≡ made f (with_interface g interface)
interface_made f g interface = by_room (placed most_interfaces (interface_named g interface.name) interface g.interfaces)
  where
    by_room : (list : Result (List Interface) Cause) → (list >>= (λ list. Ok (f (record g { interfaces = list })))) ≡ made f (list >>= (λ list. Ok (record g { interfaces = list })))
    by_room (Ok list) = refl
    by_room (Err cause) = refl

-- the node that an edit adds
abbrev new_node : List ℕ → Kind → Node
new_node name kind = record { name = name; kind = kind; arcs = replicate (length (slots kind)) error_drop }

node_made : (f : Graph → Graph) (g : Graph) (name : List ℕ) (kind : Kind)
    → (refused_if (is_some (node_named g name)) DoubleName >>= (λ _. placed most_nodes None (new_node name kind) g.nodes >>= (λ list. Ok (f (record g { nodes = list })))))
    ≡ made f (with_node g name kind)
node_made f g name kind = by_test (is_some (node_named g name))
  where
    by_room : (list : Result (List Node) Cause) → (list >>= (λ list. Ok (f (record g { nodes = list })))) ≡ made f (list >>= (λ list. Ok (record g { nodes = list })))
    by_room (Ok list) = refl
    by_room (Err cause) = refl

    by_test : (double : Bool)
        → (refused_if double DoubleName >>= (λ _. placed most_nodes None (new_node name kind) g.nodes >>= (λ list. Ok (f (record g { nodes = list })))))
        ≡ made f (refused_if double DoubleName >>= (λ _. placed most_nodes None (new_node name kind) g.nodes >>= (λ list. Ok (record g { nodes = list }))))
    by_test true = refl
    by_test false = by_room (placed most_nodes None (new_node name kind) g.nodes)

-- an arc by what a search for a cycle answers, and what is made of the nodes
abbrev arc_by : Graph → (ℕ → ℕ → Bool) → (List Node → Graph) → (from slot to : List ℕ) → Edited
arc_by g search finish from slot to = do
  n ← ok_or (node_named g from) UnknownNode
  node ← ok_or (slice_get g.nodes n) UnknownNode
  s ← ok_or (place_of (λ slot. slot) slot (slots node.kind)) UnknownSlot
  m ← ok_or (node_named g to) UnknownNode
  target ← ok_or (slice_get g.nodes m) UnknownNode
  _ ← refused_if (is_source target.kind) BadTarget
  _ ← refused_if (search m n) Cycle
  Ok (finish (slice_set g.nodes n (record node { arcs = slice_set node.arcs s m })))

arc_made : (f : Graph → Graph) (g : Graph) (search : ℕ → ℕ → Bool) (finish : List Node → Graph) (from slot to : List ℕ)
    → arc_by g search (λ nodes. f (finish nodes)) from slot to ≡ made f (arc_by g search finish from slot to)
arc_made f g search finish from slot to = simp made_then

-- walks over arcs don't look at routes
leads_same : (g : Graph) (r : Routes) (s : Routes6) (arcs from to : ℕ) → leads (with_routes g r s) arcs from to ≡ leads g arcs from to
leads_same g r s zero from to = refl
leads_same g r s (suc arcs) from to = λ i. (from == to) || list_any (λ mid. leads_same g r s arcs mid to i) (next_nodes g from)

arc_onto : (g : Graph) (r : Routes) (s : Routes6) (from slot to : List ℕ) → with_arc (with_routes g r s) from slot to ≡ made (λ h. with_routes h r s) (with_arc g from slot to)
arc_onto g r s from slot to =
    (λ i. arc_by g (λ m n. leads_same g r s (length g.nodes) m n i) (λ nodes. record (with_routes g r s) { nodes = nodes }) from slot to)
    ∙ arc_made (λ h. with_routes h r s) g (λ m n. leads g (length g.nodes) m n) (λ nodes. record g { nodes = nodes }) from slot to

adjacency_onto : (g : Graph) (r : Routes) (s : Routes6) (name interface : List ℕ) (mac : Mac) → with_adjacency (with_routes g r s) name interface mac ≡ made (λ h. with_routes h r s) (with_adjacency g name interface mac)
adjacency_onto g r s name interface mac = by_number (interface_named g interface)
  where
    by_room : (list : Result (List Adjacency) Cause) → (list >>= (λ list. Ok (record (with_routes g r s) { adjacencies = list }))) ≡ made (λ h. with_routes h r s) (list >>= (λ list. Ok (record g { adjacencies = list })))
    by_room (Ok list) = refl
    by_room (Err cause) = refl

    by_number : (number : Option ℕ)
        → (ok_or number UnknownInterface >>= (λ i. placed most_adjacencies (adjacency_named g name) (record { name = name; interface = i; mac = mac }) g.adjacencies >>= (λ list. Ok (record (with_routes g r s) { adjacencies = list }))))
        ≡ made (λ h. with_routes h r s) (ok_or number UnknownInterface >>= (λ i. placed most_adjacencies (adjacency_named g name) (record { name = name; interface = i; mac = mac }) g.adjacencies >>= (λ list. Ok (record g { adjacencies = list }))))
    by_number None = refl
    by_number (Some i) = by_room (placed most_adjacencies (adjacency_named g name) (record { name = name; interface = i; mac = mac }) g.adjacencies)

-- an edit of a graph's lists is the edit of the whole graph
pub apply_onto : (g : Graph) (r : Routes) (s : Routes6) (edit : Edit) → IsGraphEdit edit → apply (with_routes g r s) edit ≡ made (λ h. with_routes h r s) (apply g edit)
apply_onto g r s (edits.Interface name mac mtu up filter) h = interface_made (λ h. with_routes h r s) g (record { name = name; mac = mac; mtu = mtu; up = up; filter = filter })
apply_onto g r s (edits.Node name kind) h = node_made (λ h. with_routes h r s) g name kind
apply_onto g r s (edits.Arc from slot to) h = arc_onto g r s from slot to
apply_onto g r s (edits.Adjacency name interface mac) h = adjacency_onto g r s name interface mac
apply_onto g r s (edits.Route prefix to) h = absurd h
apply_onto g r s (edits.Unroute prefix) h = absurd h
apply_onto g r s (edits.Route6 prefix to) h = absurd h
apply_onto g r s (edits.Unroute6 prefix) h = absurd h

-- no adjacency is lost
abbrev Grows : Graph → Graph → Type 0
Grows g after = length g.adjacencies ≤ length after.adjacencies

-- an edit that leaves the adjacencies as they are
grows_by : (g after : Graph) (edited : Edited) → edited ≡ made (λ h. record h { adjacencies = g.adjacencies }) edited → edited ≡ Ok after → Grows g after
grows_by g after edited kept e =
    let same : ◌≡◌ {A = Edited} (Ok (record after { adjacencies = g.adjacencies })) (Ok after) = ap (made (λ h. record h { adjacencies = g.adjacencies })) (sym e) ∙ (sym kept ∙ e) in
    let graphs : record after { adjacencies = g.adjacencies } ≡ after = cc in
    let adjacencies : g.adjacencies ≡ after.adjacencies = ap (λ (h : Graph). h.adjacencies) graphs in
    omega (arith, ap length adjacencies)

adjacency_grows : (g after : Graph) (name interface : List ℕ) (mac : Mac) → with_adjacency g name interface mac ≡ Ok after → Grows g after
adjacency_grows g after name interface mac e = by_number (interface_named g interface) e
  where
    by_list : (i : ℕ) (list : Result (List Adjacency) Cause) → placed most_adjacencies (adjacency_named g name) (record { name = name; interface = i; mac = mac }) g.adjacencies ≡ list
        → ◌≡◌ {A = Edited} (list >>= (λ list. Ok (record g { adjacencies = list }))) (Ok after) → Grows g after
    by_list i (Ok list) e h =
        let graphs : record g { adjacencies = list } ≡ after = cc in
        let adjacencies : list ≡ after.adjacencies = ap (λ (h : Graph). h.adjacencies) graphs in
        let more = placed_more most_adjacencies (adjacency_named g name) (record { name = name; interface = i; mac = mac }) g.adjacencies list (placed_is most_adjacencies (adjacency_named g name) (record { name = name; interface = i; mac = mac }) g.adjacencies list e) in
        omega (arith, more, ap length adjacencies)
    by_list i (Err cause) e h = cc

    by_number : (number : Option ℕ)
        → ◌≡◌ {A = Edited} (ok_or number UnknownInterface >>= (λ i. placed most_adjacencies (adjacency_named g name) (record { name = name; interface = i; mac = mac }) g.adjacencies >>= (λ list. Ok (record g { adjacencies = list })))) (Ok after)
        → Grows g after
    by_number None h = cc
    by_number (Some i) h = by_list i (placed most_adjacencies (adjacency_named g name) (record { name = name; interface = i; mac = mac }) g.adjacencies) refl h

adjacencies_grow : (g after : Graph) (edit : Edit) → IsGraphEdit edit → apply g edit ≡ Ok after → Grows g after
adjacencies_grow g after (edits.Interface name mac mtu up filter) h e =
    let interface : Interface = record { name = name; mac = mac; mtu = mtu; up = up; filter = filter } in
    grows_by g after (with_interface g interface) (interface_made (λ h. record h { adjacencies = g.adjacencies }) g interface) e
adjacencies_grow g after (edits.Node name kind) h e = grows_by g after (with_node g name kind) (node_made (λ h. record h { adjacencies = g.adjacencies }) g name kind) e
adjacencies_grow g after (edits.Arc from slot to) h e =
    grows_by g after (with_arc g from slot to) (arc_made (λ h. record h { adjacencies = g.adjacencies }) g (λ m n. leads g (length g.nodes) m n) (λ nodes. record g { nodes = nodes }) from slot to) e
adjacencies_grow g after (edits.Adjacency name interface mac) h e = adjacency_grows g after name interface mac e
adjacencies_grow g after (edits.Route prefix to) h e = absurd h
adjacencies_grow g after (edits.Unroute prefix) h e = absurd h
adjacencies_grow g after (edits.Route6 prefix to) h e = absurd h
adjacencies_grow g after (edits.Unroute6 prefix) h e = absurd h

-- a list of routes that lead within a graph of so many adjacencies
abbrev pub AllWithin : {P : Type 0} → ℕ → RoutesOf P → Type 0
AllWithin adjacencies routes = AllByRecursion (λ route. IsRouteWithin adjacencies route.1) routes

-- the routes of a generation are tables
pub table_of : (g : Graph) → IsGeneration g → IsTable ip4 g.routes
table_of g generation = record { one_route_each = generation.valid.one_route; few = generation.few_routes }

pub table6_of : (g : Graph) → IsGeneration g → IsTable ip6 g.routes6
table6_of g generation = record { one_route_each = generation.valid.one_route6; few = generation.few_routes6 }

-- other routes, which lead within the graph, leave a generation
pub rerouted : (g : Graph) (r : Routes) (s : Routes6) → IsGeneration g → IsTable ip4 r → AllWithin (length g.adjacencies) r
    → IsTable ip6 s → AllWithin (length g.adjacencies) s → IsGeneration (with_routes g r s)
rerouted g r s generation table within table6 within6 = record {
  valid = record {
    source = generation.valid.source;
    dequeue = generation.valid.dequeue;
    drop = generation.valid.drop;
    whole = generation.valid.whole;
    targets = generation.valid.targets;
    interfaces = generation.valid.interfaces;
    adjacencies = generation.valid.adjacencies;
    routes = within;
    routes6 = within6;
    node_names = generation.valid.node_names;
    interface_names = generation.valid.interface_names;
    adjacency_names = generation.valid.adjacency_names;
    one_route = table.one_route_each;
    one_route6 = table6.one_route_each;
    interface_macs = generation.valid.interface_macs;
    adjacency_macs = generation.valid.adjacency_macs;
    acyclic = generation.valid.acyclic;
  };
  few_nodes = generation.few_nodes;
  few_interfaces = generation.few_interfaces;
  few_adjacencies = generation.few_adjacencies;
  few_routes = table.few;
  few_routes6 = table6.few;
}

-- a generation with other IPv4 routes, and with other IPv6 routes
pub rerouted4 : (g : Graph) (r : Routes) (s : Routes6) → IsGeneration (with_routes g r s) → (others : Routes) → IsTable ip4 others
    → AllWithin (length g.adjacencies) others → IsGeneration (with_routes g others s)
rerouted4 g r s generation others table within =
    rerouted (with_routes g r s) others s generation table within (table6_of (with_routes g r s) generation) generation.valid.routes6

pub rerouted6 : (g : Graph) (r : Routes) (s : Routes6) → IsGeneration (with_routes g r s) → (others : Routes6) → IsTable ip6 others
    → AllWithin (length g.adjacencies) others → IsGeneration (with_routes g r others)
rerouted6 g r s generation others table within =
    rerouted (with_routes g r s) r others generation (table_of (with_routes g r s) generation) generation.valid.routes table within

-- a graph without routes is a generation
kept_generation : (g : Graph) → IsKept g → IsGeneration g
kept_generation g kept = record {
  valid = kept.valid;
  few_nodes = kept.few_nodes;
  few_interfaces = kept.few_interfaces;
  few_adjacencies = kept.few_adjacencies;
  few_routes = omega (arith, ap length kept.no_routes);
  few_routes6 = omega (arith, ap length kept.no_routes6);
}

-- what holds of each route holds of each that is left
all_remove : {X : Type 0} (P : X → Type 0) (xs : List X) (i : ℕ) → AllByRecursion P xs → AllByRecursion P (remove xs i)
all_remove P [] zero all = tt
all_remove P [] (suc i) all = tt
all_remove P (x ∷ xs) zero all = all.1
all_remove P (x ∷ xs) (suc i) all = (all.0, all_remove P xs i all.1)

-- a table of either kind, once a route is set in it or taken out: what holds of tables whose routes lead within a graph holds again
module _ {P : Type 0} {kind : PrefixKind P} (are : ArePrefixes kind) (adjacencies : ℕ) (Good : RoutesOf P → Type 0)
    (good : (r : RoutesOf P) → IsTable kind r → AllWithin adjacencies r → Good r) where
  pub good_removed : (r after : RoutesOf P) (p : P) (result : Result (Unit {0}) NoSuchRoute) → IsTable kind r → AllWithin adjacencies r → Good r
      → MatchOption (place_in kind p r) (IsErr result × (after ≡ r)) (λ place. IsOk result × (after ≡ remove r place)) → Good after
  good_removed r after p result table within is h = by_place (place_in kind p r) refl h
    where
      by_place : (o : Option ℕ) → place_in kind p r ≡ o → MatchOption o (IsErr result × (after ≡ r)) (λ place. IsOk result × (after ≡ remove r place)) → Good after
      by_place None e h = subst Good (sym h.1) is
      by_place (Some place) e h =
          subst Good (sym h.1) (good (remove r place) (table_remove are r place (p, routes.Local) table (place_within are p r place e))
          (all_remove (λ route. IsRouteWithin adjacencies route.1) r place within))

  pub good_set : (r after : RoutesOf P) (p : P) (to : RouteTo) (result : Result (Unit {0}) FibError) → IsTable kind r → AllWithin adjacencies r → Good r
      → IsRouteWithin adjacencies to → IfOk result (λ _. placed most_routes (place_in kind p r) (p, to) r ≡ Ok after) → IfErr result (λ _. after ≡ r) → Good after
  good_set r after p to (Err error) table within is leads_within set same = subst Good (sym same) is
  good_set r after p to (Ok done) table within is leads_within set same = by_place (placed_is most_routes (place_in kind p r) (p, to) r after set)
    where
      by_place : IsPlaced most_routes (place_in kind p r) (p, to) r after → Good after
      by_place placed =
          good after (by_table placed) (placed_all (λ route. IsRouteWithin adjacencies route.1) most_routes (place_in kind p r) (p, to) r after placed within leads_within)
        where
          by_table : IsPlaced most_routes (place_in kind p r) (p, to) r after → IsTable kind after
          by_table (inl t) = subst (IsTable kind) (sym t.2) (table_set are p to r t.0 table t.1)
          by_table (inr t) = subst (IsTable kind) (sym t.2) (table_push are p to r table t.0 t.1)

-- after a route is taken out there is a generation again
pub unrouted_generation : (g : Graph) (r after : Routes) (s : Routes6) (p : Prefix) (result : Result (Unit {0}) NoSuchRoute) → IsGeneration (with_routes g r s)
    → MatchOption (place_in ip4 p r) (IsErr result × (after ≡ r)) (λ place. IsOk result × (after ≡ remove r place)) → IsGeneration (with_routes g after s)
unrouted_generation g r after s p result generation h =
    good_removed are4 (length g.adjacencies) (λ r. IsGeneration (with_routes g r s)) (rerouted4 g r s generation) r after p result
    (table_of (with_routes g r s) generation) generation.valid.routes generation h

pub unrouted6_generation : (g : Graph) (r : Routes) (s after : Routes6) (p : Prefix6) (result : Result (Unit {0}) NoSuchRoute) → IsGeneration (with_routes g r s)
    → MatchOption (place_in ip6 p s) (IsErr result × (after ≡ s)) (λ place. IsOk result × (after ≡ remove s place)) → IsGeneration (with_routes g r after)
unrouted6_generation g r s after p result generation h =
    good_removed are6 (length g.adjacencies) (λ s. IsGeneration (with_routes g r s)) (rerouted6 g r s generation) s after p result
    (table6_of (with_routes g r s) generation) generation.valid.routes6 generation h

-- after a route is set there is a generation again
pub set_generation : (g : Graph) (r after : Routes) (s : Routes6) (p : Prefix) (to : RouteTo) (result : Result (Unit {0}) FibError) → IsGeneration (with_routes g r s)
    → IsRouteWithin (length g.adjacencies) to
    → IfOk result (λ _. placed most_routes (place_in ip4 p r) (p, to) r ≡ Ok after) → IfErr result (λ _. after ≡ r) → IsGeneration (with_routes g after s)
set_generation g r after s p to result generation within set same =
    good_set are4 (length g.adjacencies) (λ r. IsGeneration (with_routes g r s)) (rerouted4 g r s generation) r after p to result
    (table_of (with_routes g r s) generation) generation.valid.routes generation within set same

pub set6_generation : (g : Graph) (r : Routes) (s after : Routes6) (p : Prefix6) (to : RouteTo) (result : Result (Unit {0}) FibError) → IsGeneration (with_routes g r s)
    → IsRouteWithin (length g.adjacencies) to
    → IfOk result (λ _. placed most_routes (place_in ip6 p s) (p, to) s ≡ Ok after) → IfErr result (λ _. after ≡ s) → IsGeneration (with_routes g r after)
set6_generation g r s after p to result generation within set same =
    good_set are6 (length g.adjacencies) (λ s. IsGeneration (with_routes g r s)) (rerouted6 g r s generation) s after p to result
    (table6_of (with_routes g r s) generation) generation.valid.routes6 generation within set same

-- what the names so far come to: the numbers that are known, and those of the names that are left
abbrev pub AreSoFar : Graph → List (List ℕ) → ℕ → List ℕ → Type 0
AreSoFar g names i members = members_of g names ≡ (members_of g (drop i names) >>= (λ others. Ok (members ++ others)))

-- after an edit of a graph's lists there is a generation again
pub edited_generation : (g after : Graph) (r : Routes) (s : Routes6) (edit : Edit) (result : Result (Unit {0}) GraphError) → IsGraphEdit edit → IsGeneration (with_routes g r s)
    → IsKept after → Answers (apply g edit) after result → OnErr result (after ≡ g) → IsGeneration (with_routes after r s)
edited_generation g after r s edit (Ok done) h generation kept answer same =
    let more : length g.adjacencies ≤ length after.adjacencies = adjacencies_grow g after edit h answer in
    rerouted after r s (kept_generation after kept)
    (table_of (with_routes g r s) generation) (all_weaken (λ route. IsRouteWithin (length g.adjacencies) route.1) (λ route. IsRouteWithin (length after.adjacencies) route.1) (λ route. further route.1 more) r generation.valid.routes)
    (table6_of (with_routes g r s) generation) (all_weaken (λ route. IsRouteWithin (length g.adjacencies) route.1) (λ route. IsRouteWithin (length after.adjacencies) route.1) (λ route. further route.1 more) s generation.valid.routes6)
  where
    further : (to : RouteTo) → length g.adjacencies ≤ length after.adjacencies → IsRouteWithin (length g.adjacencies) to → IsRouteWithin (length after.adjacencies) to
    further (routes.Via members) more within = (within.0, all_weaken (λ a. a < length g.adjacencies) (λ a. a < length after.adjacencies) (λ a h. omega (arith, h, more)) members within.1)
    further routes.Local more within = tt
    further routes.Drop more within = tt
edited_generation g after r s edit (Err error) h generation kept answer same = subst (λ h. IsGeneration (with_routes h r s)) (sym same) generation

-- what the graph answers, for the whole graph
pub edited_done : (g after whole : Graph) (r : Routes) (s : Routes6) (edit : Edit) → with_routes g r s ≡ whole → IsGraphEdit edit → apply g edit ≡ Ok after
    → apply whole edit ≡ Ok (with_routes after r s)
edited_done g after whole r s edit seen h e = ap (λ w. apply w edit) (sym seen) ∙ (apply_onto g r s edit h ∙ ap (made (λ h. with_routes h r s)) e)

pub edited_refused : (g whole : Graph) (r : Routes) (s : Routes6) (edit : Edit) (error : GraphError) (cause : ScriptCause) → with_routes g r s ≡ whole → IsGraphEdit edit → IsRefusedBy (apply g edit) error
    → MatchOption (cause_of_graph error) (cause ≡ script_causes.Memory) (λ why. cause ≡ cause_of why) → IsCauseOf (apply whole edit) cause
edited_refused g whole r s edit error cause seen h refused named = by_cause (cause_of_graph error) refused named
  where
    by_cause : (o : Option Cause) → MatchOption o (IsOk (apply g edit)) (λ why. apply g edit ≡ Err why)
        → MatchOption o (cause ≡ script_causes.Memory) (λ why. cause ≡ cause_of why) → IsCauseOf (apply whole edit) cause
    by_cause None refused named = λ other. absurd (other named)
    by_cause (Some why) refused named = λ other. (why, ap (λ w. apply w edit) (sym seen) ∙ (apply_onto g r s edit h ∙ ap (made (λ h. with_routes h r s)) refused), named)
