-- For `conclude` of vg_engine and `check` of vg_check, where packets end in the last graph: no edit takes a node or an interface away.
use Rattle.std.proofs.Common.{◌≡◌, ℕ, zero, suc, ◌+◌, ◌-◌, ◌<◌, ◌≤◌, List, [], ◌∷◌, ◌++◌, length, refl, sym, ap, subst, ◌∙◌, arith, length-append}
use Rattle.std.specs.Prelude.{Bool, true, false, nat_le, Option, Some, None, Result, Ok, Err, slice_get, slice_set, ok_or, is_some, replicate, remove, if◌then◌else◌}
use Rattle.std.proofs.lemmas.List.{length-set}
use Rattle.std.proofs.lemmas.Option.{same_Some, slice_get_within}
use Rattle.vg_model.specs.declared.edits.Edit.{Edit}
use Rattle.vg_model.specs.declared.edits.Edit.TheVariants as edits
use Rattle.vg_model.specs.declared.edits.EditLine.{EditLine}
use Rattle.vg_model.specs.Graph.{Graph, Node, slots, error_drop, is_source}
use Rattle.vg_model.specs.declared.kinds.Adjacency.{Adjacency}
use Rattle.vg_model.specs.declared.kinds.Interface.{Interface}
use Rattle.vg_model.specs.declared.kinds.Kind.{Kind}
use Rattle.vg_model.specs.declared.names.Mac.{Mac}
use Rattle.vg_model.specs.declared.routes.Prefix.{Prefix}
use Rattle.vg_model.specs.declared.routes.Prefix6.{Prefix6}
use Rattle.vg_model.specs.declared.routes.RouteTo.{RouteTo}
use Rattle.vg_model.specs.declared.routes.RouteWord.{RouteWord}
use Rattle.vg_model.specs.Growth.{Grows}
use Rattle.vg_model.specs.Edit.{Cause, Edited, ◌>>=◌, TooMany, DoubleName, UnknownNode, UnknownSlot, BadTarget, Cycle, UnknownInterface, NoRoute, most_nodes, most_interfaces, most_adjacencies, most_routes}
use Rattle.vg_model.specs.Edit.{node_named, interface_named, adjacency_named, place_of, route_place, route6_place, target_of, refused_if, leads, placed, with_interface, with_node, with_arc, with_adjacency, with_route, without_route, with_route6, without_route6, apply, apply_all}
use Rattle.vg_script.specs.Events.{events}
use Rattle.vg_plan.specs.Plan.{Planned, IsPlan}
use Rattle.vg_plan.proofs.GenerationLemmas.{length_graphs, all_made}

-- the graph that an edit makes, where it makes one
abbrev pub IfMade : (Graph → Type 0) → Edited → Type 0
IfMade Q (Ok after) = Q after
IfMade Q (Err cause) = Unit {0}

abbrev MayGrow : Graph → Edited → Type 0
MayGrow g edited = IfMade (Grows g) edited

-- what follows a value makes such a graph where it does for each value
pub then_made : {X : Type 0} (Q : Graph → Type 0) (a : Result X Cause) (f : X → Edited) → ((x : X) → a ≡ Ok x → IfMade Q (f x)) → IfMade Q (a >>= f)
then_made Q (Ok x) f each = each x refl
then_made Q (Err cause) f each = tt

then_grows : {X : Type 0} (g : Graph) (a : Result X Cause) (f : X → Edited) → ((x : X) → a ≡ Ok x → MayGrow g (f x)) → MayGrow g (a >>= f)
then_grows g a f each = then_made (Grows g) a f each

placed_longer : {X : Type 0} (most : ℕ) (place : Option ℕ) (x : X) (xs ys : List X) → placed most place x xs ≡ Ok ys → length xs ≤ length ys
placed_longer most (Some place) x xs ys e = let same : slice_set xs place x ≡ ys = cc in omega (arith, ap length same, length-set xs place x)
placed_longer {X} most None x xs ys e = here (nat_le most (length xs)) e
  where
    here : (full : Bool) → (if full then Err TooMany else Ok (xs ++ x ∷ [])) ≡ Ok ys → length xs ≤ length ys
    here true e = cc
    here false e = let same : xs ++ x ∷ [] ≡ ys = cc in omega (arith, ap length same, length-append xs (x ∷ []))

-- the edit of an arc, from its checks on
abbrev pub arc_set : Graph → (n s m : ℕ) → Node → Edited
arc_set g n s m node = Ok (record g { nodes = slice_set g.nodes n (record node { arcs = slice_set node.arcs s m }) })

abbrev pub arc_checked : Graph → (n s m : ℕ) → Node → Bool → Bool → Edited
arc_checked g n s m node bad cycle = refused_if bad BadTarget >>= (λ _. refused_if cycle Cycle >>= (λ _. arc_set g n s m node))

abbrev pub arc_to : Graph → (n s m : ℕ) → Node → Edited
arc_to g n s m node =
    ok_or (slice_get g.nodes m) UnknownNode >>= (λ (target : Node). arc_checked g n s m node (is_source target.kind) (leads g (length g.nodes) m n))

abbrev pub arc_named : Graph → (n s : ℕ) → Node → List ℕ → Edited
arc_named g n s node to = ok_or (node_named g to) UnknownNode >>= (λ m. arc_to g n s m node)

abbrev pub arc_at : Graph → ℕ → Node → (slot to : List ℕ) → Edited
arc_at g n node slot to = ok_or (place_of (λ slot. slot) slot (slots node.kind)) UnknownSlot >>= (λ s. arc_named g n s node to)

abbrev pub arc_from : Graph → ℕ → (slot to : List ℕ) → Edited
arc_from g n slot to = ok_or (slice_get g.nodes n) UnknownNode >>= (λ node. arc_at g n node slot to)

checked_grows : (g : Graph) (n s m : ℕ) (node : Node) (bad cycle : Bool) → MayGrow g (arc_checked g n s m node bad cycle)
checked_grows g n s m node true cycle = tt
checked_grows g n s m node false true = tt
checked_grows g n s m node false false =
    record { nodes = (let len = length-set g.nodes n (record node { arcs = slice_set node.arcs s m }) in omega (arith, len)); interfaces = omega arith }

arc_grows : (g : Graph) (from slot to : List ℕ) → MayGrow g (with_arc g from slot to)
arc_grows g from slot to =
    then_grows g (ok_or (node_named g from) UnknownNode) (λ n. arc_from g n slot to) (λ n a.
    then_grows g (ok_or (slice_get g.nodes n) UnknownNode) (λ node. arc_at g n node slot to) (λ node b.
    then_grows g (ok_or (place_of (λ slot. slot) slot (slots node.kind)) UnknownSlot) (λ s. arc_named g n s node to) (λ s c.
    then_grows g (ok_or (node_named g to) UnknownNode) (λ m. arc_to g n s m node) (λ m d.
    then_grows g (ok_or (slice_get g.nodes m) UnknownNode) (λ (target : Node). arc_checked g n s m node (is_source target.kind) (leads g (length g.nodes) m n)) (λ target e.
    checked_grows g n s m node (is_source target.kind) (leads g (length g.nodes) m n))))))

interface_grows : (g : Graph) (interface : Interface) → MayGrow g (with_interface g interface)
interface_grows g interface =
    then_grows g (placed most_interfaces (interface_named g interface.name) interface g.interfaces) (λ list. Ok (record g { interfaces = list }))
    (λ list e. record { nodes = omega arith; interfaces = placed_longer most_interfaces (interface_named g interface.name) interface g.interfaces list e })

node_grows : (g : Graph) (name : List ℕ) (kind : Kind) → MayGrow g (with_node g name kind)
node_grows g name kind =
    let new : Node = record { name = name; kind = kind; arcs = replicate (length (slots kind)) error_drop } in
    then_grows g (refused_if (is_some (node_named g name)) DoubleName) (λ _. placed most_nodes None new g.nodes >>= (λ list. Ok (record g { nodes = list }))) (λ unit d.
    then_grows g (placed most_nodes None new g.nodes) (λ list. Ok (record g { nodes = list }))
    (λ list e. record { nodes = placed_longer most_nodes None new g.nodes list e; interfaces = omega arith }))

adjacency_grows : (g : Graph) (name interface : List ℕ) (mac : Mac) → MayGrow g (with_adjacency g name interface mac)
adjacency_grows g name interface mac =
    let new : ℕ → Adjacency = λ i. record { name = name; interface = i; mac = mac } in
    then_grows g (ok_or (interface_named g interface) UnknownInterface)
    (λ i. placed most_adjacencies (adjacency_named g name) (new i) g.adjacencies >>= (λ list. Ok (record g { adjacencies = list }))) (λ i d.
    then_grows g (placed most_adjacencies (adjacency_named g name) (new i) g.adjacencies) (λ list. Ok (record g { adjacencies = list }))
    (λ list e. record { nodes = omega arith; interfaces = omega arith }))

route_grows : (g : Graph) (prefix : Prefix) (word : RouteWord) → MayGrow g (with_route g prefix word)
route_grows g prefix word =
    let route : RouteTo → Prefix × RouteTo = λ to. (prefix, to) in
    then_grows g (target_of g word) (λ to. placed most_routes (route_place prefix g.routes) (route to) g.routes >>= (λ list. Ok (record g { routes = list }))) (λ to d.
    then_grows g (placed most_routes (route_place prefix g.routes) (route to) g.routes) (λ list. Ok (record g { routes = list }))
    (λ list e. record { nodes = omega arith; interfaces = omega arith }))

unroute_grows : (g : Graph) (prefix : Prefix) → MayGrow g (without_route g prefix)
unroute_grows g prefix =
    then_grows g (ok_or (route_place prefix g.routes) NoRoute) (λ place. Ok (record g { routes = remove g.routes place }))
    (λ place d. record { nodes = omega arith; interfaces = omega arith })

route6_grows : (g : Graph) (prefix : Prefix6) (word : RouteWord) → MayGrow g (with_route6 g prefix word)
route6_grows g prefix word =
    let route : RouteTo → Prefix6 × RouteTo = λ to. (prefix, to) in
    then_grows g (target_of g word) (λ to. placed most_routes (route6_place prefix g.routes6) (route to) g.routes6 >>= (λ list. Ok (record g { routes6 = list }))) (λ to d.
    then_grows g (placed most_routes (route6_place prefix g.routes6) (route to) g.routes6) (λ list. Ok (record g { routes6 = list }))
    (λ list e. record { nodes = omega arith; interfaces = omega arith }))

unroute6_grows : (g : Graph) (prefix : Prefix6) → MayGrow g (without_route6 g prefix)
unroute6_grows g prefix =
    then_grows g (ok_or (route6_place prefix g.routes6) NoRoute) (λ place. Ok (record g { routes6 = remove g.routes6 place }))
    (λ place d. record { nodes = omega arith; interfaces = omega arith })

-- an edit takes no node and no interface away
apply_grows : (g : Graph) (edit : Edit) → MayGrow g (apply g edit)
apply_grows g (edits.Interface name mac mtu up filter) = interface_grows g (record { name = name; mac = mac; mtu = mtu; up = up; filter = filter })
apply_grows g (edits.Node name kind) = node_grows g name kind
apply_grows g (edits.Arc from slot to) = arc_grows g from slot to
apply_grows g (edits.Adjacency name interface mac) = adjacency_grows g name interface mac
apply_grows g (edits.Route prefix to) = route_grows g prefix to
apply_grows g (edits.Unroute prefix) = unroute_grows g prefix
apply_grows g (edits.Route6 prefix to) = route6_grows g prefix to
apply_grows g (edits.Unroute6 prefix) = unroute6_grows g prefix

-- one graph grows to the next, and that to a third
grows_on : (a b c : Graph) → Grows a b → Grows b c → Grows a c
grows_on a b c one two =
    record { nodes = (let h = one.nodes in let k = two.nodes in omega (arith, h, k)); interfaces = (let h = one.interfaces in let k = two.interfaces in omega (arith, h, k)) }

grows_same : (g : Graph) → Grows g g
grows_same g = record { nodes = omega arith; interfaces = omega arith }

-- what further edits make of an answer
abbrev then_all : ℕ → List EditLine → Edited → Result Graph (ℕ × Cause)
then_all line lines (Ok next) = apply_all next lines
then_all line lines (Err cause) = Err (line, cause)

-- edits in a row take no node and no interface away
all_grow : (g after : Graph) (edits : List EditLine) → apply_all g edits ≡ Ok after → Grows g after
all_grow g after [] e = subst (Grows g) (let same : g ≡ after = cc in same) (grows_same g)
all_grow g after (line ∷ lines) e = here (apply g line.edit) refl (λ next. all_grow next after lines) e
  where
    here : (edited : Edited) → apply g line.edit ≡ edited → ((next : Graph) → apply_all next lines ≡ Ok after → Grows next after)
        → then_all line.line lines edited ≡ Ok after → Grows g after
    here (Ok next) is rest e = grows_on g next after (subst (MayGrow g) is (apply_grows g line.edit)) (rest next e)
    here (Err cause) is rest e = cc

slice_get_some : {X : Type 0} (xs : List X) (i : ℕ) → i < length xs → (x : X) × (slice_get xs i ≡ Some x)
slice_get_some [] i h = absurd (omega (arith, h))
slice_get_some (x ∷ xs) zero h = (x, refl)
slice_get_some (x ∷ xs) (suc i) h = slice_get_some xs i (omega (arith, h))

-- the graph of a generation grows to that of a later one
to_later : (plan : Planned) → IsPlan plan → (generation more : ℕ) (one other : Graph) → slice_get plan.graphs generation ≡ Some one → slice_get plan.graphs (generation + more) ≡ Some other
    → Grows one other
to_later plan is generation zero one other at later =
    let same : Some one ≡ Some other = sym at ∙ ap (slice_get plan.graphs) (let e : generation ≡ generation + 0 = omega arith in e) ∙ later in
    subst (Grows one) (same_Some one other same) (grows_same one)
to_later plan is generation (suc more) one other at later =
    let within = slice_get_within plan.graphs (generation + suc more) other later in
    let event = slice_get_some (events plan.script) (generation + more) (let count = length_graphs plan is in omega (arith, within, count)) in
    let step = all_made plan is (generation + more) event.0 event.1 in
    let first = to_later plan is generation more one step.0 at step.2 in
    let next : step.1 ≡ other = same_Some step.1 other (sym step.3 ∙ ap (slice_get plan.graphs) (let e : generation + more + 1 ≡ generation + suc more = omega arith in e) ∙ later) in
    grows_on one step.0 other first (subst (Grows step.0) next (all_grow step.0 step.1 event.0.edits step.4))

-- the graph of a generation grows to that of the last one
pub grows_to_last : (plan : Planned) → IsPlan plan → (generation : ℕ) (one last : Graph) → slice_get plan.graphs generation ≡ Some one
    → slice_get plan.graphs (length plan.graphs - 1) ≡ Some last → Grows one last
grows_to_last plan is generation one last at end_at =
    let within = slice_get_within plan.graphs generation one at in
    let gap : generation + (length plan.graphs - 1 - generation) ≡ length plan.graphs - 1 = omega (arith, within) in
    to_later plan is generation (length plan.graphs - 1 - generation) one last at (ap (slice_get plan.graphs) gap ∙ end_at)
