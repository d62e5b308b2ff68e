-- For `Graph::{set_interface, set_adjacency, set_arc, checked_arc, add_node}`: edits keep a graph valid and within its limits.
use Rattle.std.proofs.Common.{◌≡◌, ℕ, zero, suc, ◌+◌, ◌<◌, ◌≤◌, inl, inr, false, List, [], ◌∷◌, ◌++◌, length, get_or, refl, sym, ap, subst, ◌∙◌, arith, length-append, length-set, true≢false}
use Rattle.std.specs.Prelude.{Option, Some, None, Result, Ok, Err, slice_get, slice_set, map, option_map, option_and_then, replicate, bytes_eq, OnErr, is_some, ok_or}
use Rattle.std.specs.List.{AllByRecursion, IsDistinct}
use Rattle.std.proofs.lemmas.List.{length-replicate, map-set, length-map}
use Rattle.std.proofs.lemmas.Option.{none-some, same_Some, slice_get_within, slice_get-map, slice_get_read}
use Rattle.vg_model.specs.declared.kinds.Interface.{Interface}
use Rattle.vg_model.specs.declared.kinds.Adjacency.{Adjacency}
use Rattle.vg_model.specs.declared.kinds.Kind.{Kind}
use Rattle.vg_model.specs.declared.kinds.Kind.TheVariants as kinds
use Rattle.vg_model.specs.Graph.{Graph, Node, arc, kind_at, slots, error_drop, is_source}
use Rattle.vg_model.specs.Valid.{Walk, HasArc, IsTarget, IsMac}
use Rattle.vg_model.specs.Edit.{leads, with_arc, most_nodes, most_interfaces, most_adjacencies, placed, place_of, node_named, interface_named, adjacency_named}
use Rattle.vg_model.proofs.Walks.{AddedArc, with_arc_acyclic, short_acyclic, acyclic_short}
use Rattle.vg_model.proofs.Arcs.{arc_set, arc_set_short}
use Rattle.vg_model.proofs.Journeys.{map_some, then_some}
use Rattle.vg_model.proofs.LegEnds.{all_at, arc_target, kind_some}
use Rattle.vg_model.proofs.KindTable.{may_be_target}
use Rattle.vg_graph.specs.declared.errors.GraphError.{GraphError}
use Rattle.vg_graph.specs.Refusals.{Answers}
use Rattle.vg_graph.specs.declared.nodes.Node.{Node as Entry}
use Rattle.vg_graph.specs.declared.graphs.NewArc.{NewArc}
use Rattle.vg_graph.specs.NewArc.{IsNewArc}
use Rattle.vg_graph.specs.View.{node_of, IsKept}
use Rattle.vg_graph.proofs.ListLemmas.{append_read, append_split, all_weaken, all_append, all_set, all_replicate, map_set, map_append, found_name, distinct_append, IsPlaced, placed_is, placed_all, placed_more, placed_few, placed_distinct}
use Rattle.vg_graph.proofs.SearchLemmas.{target_within}

-- no routes, so none leads beyond the adjacencies
no_routes_within : {X : Type 0} (P : X → Type 0) (routes : List X) → routes ≡ [] → AllByRecursion P routes
no_routes_within P routes e = subst (AllByRecursion P) (sym e) tt

-- a graph with an interface put
interface_put : (g : Graph) (interface : Interface) (after : List Interface) → IsKept g → IsMac interface.mac
    → IsPlaced most_interfaces (interface_named g interface.name) interface g.interfaces after → IsKept (record g { interfaces = after })
interface_put g interface after kept mac put =
    let more : length g.interfaces ≤ length after = placed_more most_interfaces _ interface g.interfaces after put in
    let valid = kept.valid in
    record {
      valid = record {
        source = valid.source;
        dequeue = valid.dequeue;
        drop = valid.drop;
        whole = valid.whole;
        targets = valid.targets;
        interfaces = omega (arith, more, valid.interfaces);
        adjacencies = all_weaken (λ (a : Adjacency). a.interface < length g.interfaces) (λ a. a.interface < length after) (λ a h. omega (arith, more, h)) g.adjacencies valid.adjacencies;
        routes = valid.routes;
        routes6 = valid.routes6;
        node_names = valid.node_names;
        interface_names = placed_distinct (λ (i : Interface). i.name) most_interfaces interface g.interfaces after put valid.interface_names;
        adjacency_names = valid.adjacency_names;
        one_route = valid.one_route;
        one_route6 = valid.one_route6;
        interface_macs = placed_all (λ (i : Interface). IsMac i.mac) most_interfaces _ interface g.interfaces after put valid.interface_macs mac;
        adjacency_macs = valid.adjacency_macs;
        acyclic = valid.acyclic;
      };
      no_routes = kept.no_routes;
      no_routes6 = kept.no_routes6;
      few_nodes = kept.few_nodes;
      few_interfaces = placed_few most_interfaces _ interface g.interfaces after put kept.few_interfaces;
      few_adjacencies = kept.few_adjacencies;
    }

-- a graph with an adjacency put
adjacency_put : (g : Graph) (adjacency : Adjacency) (after : List Adjacency) → IsKept g → IsMac adjacency.mac → adjacency.interface < length g.interfaces
    → IsPlaced most_adjacencies (adjacency_named g adjacency.name) adjacency g.adjacencies after → IsKept (record g { adjacencies = after })
adjacency_put g adjacency after kept mac interface put =
    let valid = kept.valid in
    record {
      valid = record {
        source = valid.source;
        dequeue = valid.dequeue;
        drop = valid.drop;
        whole = valid.whole;
        targets = valid.targets;
        interfaces = valid.interfaces;
        adjacencies = placed_all (λ (a : Adjacency). a.interface < length g.interfaces) most_adjacencies _ adjacency g.adjacencies after put valid.adjacencies interface;
        routes = no_routes_within _ g.routes kept.no_routes;
        routes6 = no_routes_within _ g.routes6 kept.no_routes6;
        node_names = valid.node_names;
        interface_names = valid.interface_names;
        adjacency_names = placed_distinct (λ (a : Adjacency). a.name) most_adjacencies adjacency g.adjacencies after put valid.adjacency_names;
        one_route = valid.one_route;
        one_route6 = valid.one_route6;
        interface_macs = valid.interface_macs;
        adjacency_macs = placed_all (λ (a : Adjacency). IsMac a.mac) most_adjacencies _ adjacency g.adjacencies after put valid.adjacency_macs mac;
        acyclic = valid.acyclic;
      };
      no_routes = kept.no_routes;
      no_routes6 = kept.no_routes6;
      few_nodes = kept.few_nodes;
      few_interfaces = kept.few_interfaces;
      few_adjacencies = placed_few most_adjacencies _ adjacency g.adjacencies after put kept.few_adjacencies;
    }

-- what an edit of the interfaces leaves
pub interface_kept : (g : Graph) (interface : Interface) (place : Option ℕ) (after : List Interface) (result : Result (Unit {0}) GraphError) → IsKept g → IsMac interface.mac
    → place ≡ interface_named g interface.name → Answers (placed most_interfaces place interface g.interfaces) after result → OnErr result (after ≡ g.interfaces)
    → IsKept (record g { interfaces = after })
interface_kept g interface place after (Ok done) kept mac named answer same =
    interface_put g interface after kept mac (subst (λ p. IsPlaced most_interfaces p interface g.interfaces after) named (placed_is most_interfaces place interface g.interfaces after answer))
interface_kept g interface place after (Err error) kept mac named answer same = subst (λ i. IsKept (record g { interfaces = i })) (sym same) kept

-- what an edit of the adjacencies leaves
pub adjacency_kept : (g : Graph) (adjacency : Adjacency) (place : Option ℕ) (after : List Adjacency) (result : Result (Unit {0}) GraphError) → IsKept g → IsMac adjacency.mac
    → adjacency.interface < length g.interfaces → place ≡ adjacency_named g adjacency.name
    → Answers (placed most_adjacencies place adjacency g.adjacencies) after result → OnErr result (after ≡ g.adjacencies)
    → IsKept (record g { adjacencies = after })
adjacency_kept g adjacency place after (Ok done) kept mac interface named answer same =
    adjacency_put g adjacency after kept mac interface
    (subst (λ p. IsPlaced most_adjacencies p adjacency g.adjacencies after) named (placed_is most_adjacencies place adjacency g.adjacencies after answer))
adjacency_kept g adjacency place after (Err error) kept mac interface named answer same = subst (λ a. IsKept (record g { adjacencies = a })) (sym same) kept

-- a graph with one more node
module _ (g : Graph) (node : Node) (kept : IsKept g) (arcs : node.arcs ≡ replicate (length (slots node.kind)) error_drop) where
  -- the graph with the node behind the others
  abbrev pub with_one : Graph
  with_one = record g { nodes = g.nodes ++ node ∷ [] }

  -- kinds stay
  kind_stays : (n : ℕ) (kind : Kind) → kind_at g n ≡ Some kind → kind_at with_one n ≡ Some kind
  kind_stays n kind e =
      let found = map_some (λ (x : Node). x.kind) (slice_get g.nodes n) kind e in
      ap (option_map (λ (x : Node). x.kind)) (append_read g.nodes (node ∷ []) n found.0 found.1) ∙ ap Some found.2

  -- targets stay
  target_stays : (n : ℕ) → IsTarget (kind_at g n) → IsTarget (kind_at with_one n)
  target_stays n t =
      let kind = kind_some (kind_at g n) t in
      subst IsTarget (sym (kind_stays n kind.0 kind.1)) (subst IsTarget kind.1 t)

  -- the node that drops is there
  drop_within : error_drop < length g.nodes
  drop_within = let found = map_some (λ (x : Node). x.kind) (slice_get g.nodes error_drop) kinds.ErrorDrop kept.valid.drop in slice_get_within g.nodes error_drop found.0 found.1

  -- each of so many arcs leads to the node that drops
  drop_arc : (count slot to : ℕ) → slice_get (replicate count error_drop) slot ≡ Some to → to ≡ error_drop
  drop_arc zero slot to e = absurd (none-some to e)
  drop_arc (suc count) zero to e = sym (same_Some error_drop to e)
  drop_arc (suc count) (suc slot) to e = drop_arc count slot to e

  -- an arc is one of before, or leads from the new node to the node that drops
  added : (a b : ℕ) → HasArc with_one a b → AddedArc (HasArc g) (length g.nodes) error_drop a b
  added a b h =
      let found = then_some (λ (x : Node). slice_get x.arcs h.0) (slice_get with_one.nodes a) b h.1 in
      elim (append_split g.nodes node a found.0 found.1) [
        | inl old ↦ inl (h.0, ap (option_and_then (λ (x : Node). slice_get x.arcs h.0)) old ∙ found.2)
        | inr new ↦ inr (new.0, drop_arc (length (slots node.kind)) h.0 b (subst (λ l. slice_get l h.0 ≡ Some b) arcs (subst (λ (x : Node). slice_get x.arcs h.0 ≡ Some b) new.1 found.2)))
      ]

  -- a walk after the node is added is one over the arcs of before and those of the new node
  added_walk : (a b k : ℕ) → Walk (HasArc with_one) a b k → Walk (AddedArc (HasArc g) (length g.nodes) error_drop) a b k
  added_walk a b zero w = w
  added_walk a b (suc k) w = (w.0, added_walk a w.0 k w.1, added w.0 b w.2)

  -- no walk of before leads to the new node
  none_to_new : (k : ℕ) → Walk (HasArc g) error_drop (length g.nodes) k → ⊥
  none_to_new zero w = let within = drop_within in omega (arith, w, within)
  none_to_new (suc k) w =
      let within : length g.nodes < length g.nodes = target_within g (length g.nodes) (arc_target g w.0 (length g.nodes) kept.valid w.2) in omega (arith, within)

  -- there is one node more
  longer : length with_one.nodes ≡ length g.nodes + 1
  longer = length-append g.nodes (node ∷ [])

  -- an arc begins at a node
  begins : (a b : ℕ) → HasArc with_one a b → a < length with_one.nodes
  begins a b h =
      let found = then_some (λ (x : Node). slice_get x.arcs h.0) (slice_get with_one.nodes a) b h.1 in
      slice_get_within with_one.nodes a found.0 found.1

  -- an arc ends at a node
  ends : (a b : ℕ) → HasArc with_one a b → b < length with_one.nodes
  ends a b h = elim (added a b h) [
    | inl old ↦ omega (arith, longer, target_within g b (arc_target g a b kept.valid old))
    | inr new ↦ omega (arith, longer, drop_within, new.1)
  ]

  -- walks stay short
  short : (a b k : ℕ) → Walk (HasArc with_one) a b k → k < length with_one.nodes
  short = acyclic_short (HasArc with_one) (length with_one.nodes) (omega (arith, longer)) begins ends
      (λ a k w. with_arc_acyclic (HasArc g) (length g.nodes) error_drop none_to_new (short_acyclic (HasArc g) (length g.nodes) kept.valid.acyclic) a k (added_walk a a (suc k) w))

  -- it is valid and within its limits
  pub node_added : place_of (λ n. n.name) node.name g.nodes ≡ None → length g.nodes < most_nodes → IsKept with_one
  node_added new few =
      let valid = kept.valid in
      record {
        valid = record {
          source = kind_stays 0 kinds.PgInput valid.source;
          dequeue = kind_stays 1 kinds.HandoffDequeue valid.dequeue;
          drop = kind_stays 8 kinds.ErrorDrop valid.drop;
          whole = all_append (λ (x : Node). length x.arcs ≡ length (slots x.kind)) g.nodes node valid.whole (ap length arcs ∙ length-replicate (length (slots node.kind)) error_drop);
          targets =
              all_append (λ (x : Node). AllByRecursion (λ to. IsTarget (kind_at with_one to)) x.arcs) g.nodes node
              (all_weaken (λ (x : Node). AllByRecursion (λ to. IsTarget (kind_at g to)) x.arcs) (λ x. AllByRecursion (λ to. IsTarget (kind_at with_one to)) x.arcs)
              (λ x h. all_weaken (λ to. IsTarget (kind_at g to)) (λ to. IsTarget (kind_at with_one to)) target_stays x.arcs h) g.nodes valid.targets)
              (subst (AllByRecursion (λ to. IsTarget (kind_at with_one to))) (sym arcs)
              (all_replicate (λ to. IsTarget (kind_at with_one to)) (length (slots node.kind)) error_drop (subst IsTarget (sym (kind_stays 8 kinds.ErrorDrop valid.drop)) tt)));
          interfaces = valid.interfaces;
          adjacencies = valid.adjacencies;
          routes = valid.routes;
          routes6 = valid.routes6;
          node_names = distinct_append (λ (n : Node). n.name) node.name g.nodes node refl new valid.node_names;
          interface_names = valid.interface_names;
          adjacency_names = valid.adjacency_names;
          one_route = valid.one_route;
          one_route6 = valid.one_route6;
          interface_macs = valid.interface_macs;
          adjacency_macs = valid.adjacency_macs;
          acyclic = short;
        };
        no_routes = kept.no_routes;
        no_routes6 = kept.no_routes6;
        few_nodes = omega (arith, longer, few);
        few_interfaces = kept.few_interfaces;
        few_adjacencies = kept.few_adjacencies;
      }

-- a graph with an arc set
module _ (g : Graph) (n s m : ℕ) (node : Node) (here : slice_get g.nodes n ≡ Some node) (kept : IsKept g) where
  -- each node has the kind that it had
  same_kinds : map (λ (x : Node). x.kind) (arc_set g n node s m).nodes ≡ map (λ (x : Node). x.kind) g.nodes
  same_kinds = map_set (λ (x : Node). x.kind) g.nodes n node (record node { arcs = slice_set node.arcs s m }) here refl

  -- and so by its number
  same_kind : (x : ℕ) → kind_at (arc_set g n node s m) x ≡ kind_at g x
  same_kind x = sym (read_map (arc_set g n node s m).nodes x) ∙ (ap (λ l. slice_get l x) same_kinds ∙ read_map g.nodes x)
    where
      -- a kind by its number
      read_map : (xs : List Node) (i : ℕ) → slice_get (map (λ (x : Node). x.kind) xs) i ≡ option_map (λ (x : Node). x.kind) (slice_get xs i)
      read_map [] i = refl
      read_map (y ∷ xs) zero = refl
      read_map (y ∷ xs) (suc i) = read_map xs i

  -- it is valid and within its limits
  pub arc_kept : IsTarget (kind_at g m) → leads g (length g.nodes) m n ≡ false → IsKept (arc_set g n node s m)
  arc_kept target test =
      let valid = kept.valid in
      let g' : Graph = arc_set g n node s m in
      let stays : (to : ℕ) → IsTarget (kind_at g to) → IsTarget (kind_at g' to) = λ to t. subst IsTarget (sym (same_kind to)) t in
      let old_targets : AllByRecursion (λ (x : Node). AllByRecursion (λ to. IsTarget (kind_at g' to)) x.arcs) g.nodes =
      all_weaken (λ (x : Node). AllByRecursion (λ to. IsTarget (kind_at g to)) x.arcs) (λ x. AllByRecursion (λ to. IsTarget (kind_at g' to)) x.arcs)
      (λ x h. all_weaken (λ to. IsTarget (kind_at g to)) (λ to. IsTarget (kind_at g' to)) stays x.arcs h) g.nodes valid.targets in
      record {
        valid = record {
          source = same_kind 0 ∙ valid.source;
          dequeue = same_kind 1 ∙ valid.dequeue;
          drop = same_kind 8 ∙ valid.drop;
          whole =
              all_set (λ (x : Node). length x.arcs ≡ length (slots x.kind)) g.nodes n (record node { arcs = slice_set node.arcs s m }) valid.whole
              (length-set node.arcs s m ∙ all_at (λ (x : Node). length x.arcs ≡ length (slots x.kind)) g.nodes n node here valid.whole);
          targets =
              all_set (λ (x : Node). AllByRecursion (λ to. IsTarget (kind_at g' to)) x.arcs) g.nodes n (record node { arcs = slice_set node.arcs s m }) old_targets
              (all_set (λ to. IsTarget (kind_at g' to)) node.arcs s m
              (all_at (λ (x : Node). AllByRecursion (λ to. IsTarget (kind_at g' to)) x.arcs) g.nodes n node here old_targets) (stays m target));
          interfaces = valid.interfaces;
          adjacencies = valid.adjacencies;
          routes = valid.routes;
          routes6 = valid.routes6;
          node_names = subst (IsDistinct bytes_eq) (sym (map_set (λ (x : Node). x.name) g.nodes n node (record node { arcs = slice_set node.arcs s m }) here refl)) valid.node_names;
          interface_names = valid.interface_names;
          adjacency_names = valid.adjacency_names;
          one_route = valid.one_route;
          one_route6 = valid.one_route6;
          interface_macs = valid.interface_macs;
          adjacency_macs = valid.adjacency_macs;
          acyclic = arc_set_short g n s m node here valid (target_within g m target) test;
        };
        no_routes = kept.no_routes;
        no_routes6 = kept.no_routes6;
        few_nodes = let same : length (arc_set g n node s m).nodes ≡ length g.nodes = length-set g.nodes n _ in omega (arith, same, kept.few_nodes);
        few_interfaces = kept.few_interfaces;
        few_adjacencies = kept.few_adjacencies;
      }

-- a node of these parts
abbrev made : List ℕ → Kind → List ℕ → Node
made name kind arcs = record { name = name; kind = kind; arcs = arcs }

-- what an edit that adds a node leaves
pub node_kept : (g : Graph) (nodes after : List Entry) (node : Entry) (result : Result (Unit {0}) GraphError) → IsKept g → g.nodes ≡ map node_of nodes
    → node.arcs.items ≡ replicate (length (slots node.kind)) error_drop → node_named g node.name ≡ None
    → Answers (placed most_nodes None node nodes) after result → OnErr result (after ≡ nodes) → IsKept (record g { nodes = map node_of after })
node_kept g nodes after node (Ok done) kept all arcs new answer same = elim (placed_is most_nodes None node nodes after answer) [
  | inl t ↦ absurd (none-some t.0 t.1)
  | inr t ↦
      let longer : map node_of after ≡ g.nodes ++ node_of node ∷ [] =
      ap (map node_of) t.2 ∙ (map_append node_of nodes node ∙ ap (λ l. l ++ node_of node ∷ []) (sym all)) in
      let few : length g.nodes < most_nodes = subst (λ k. k < most_nodes) (sym (ap length all ∙ length-map nodes node_of)) t.1 in
      subst (λ l. IsKept (record g { nodes = l })) (sym longer) (node_added g (node_of node) kept arcs new few)
]
node_kept g nodes after node (Err error) kept all arcs new answer same =
    subst (λ l. IsKept (record g { nodes = l })) (sym (ap (map node_of) same ∙ sym all)) kept

-- an arc that is written into a node
pub arc_written : (nodes : List Entry) (n s m : ℕ) (old new : Entry) (node : Node) → old ≡ get_or nodes n old → slice_get (map node_of nodes) n ≡ Some node
    → new.name ≡ old.name → new.kind ≡ old.kind → new.arcs.items ≡ slice_set old.arcs.items s m
    → map node_of (slice_set nodes n new) ≡ slice_set (map node_of nodes) n (record node { arcs = slice_set node.arcs s m })
arc_written nodes n s m old new node here seen name kind arcs =
    let within : n < length nodes = subst (λ k. n < k) (length-map nodes node_of) (slice_get_within (map node_of nodes) n node seen) in
    let same : node_of old ≡ node = same_Some (node_of old) node (sym (slice_get-map node_of nodes n ∙ ap (option_map node_of) (slice_get_read nodes (length nodes) n old refl within here)) ∙ seen) in
    let written : node_of new ≡ record (node_of old) { arcs = slice_set old.arcs.items s m } = node_eq (node_of new) old.name old.kind (slice_set old.arcs.items s m) name kind arcs in
    map-set node_of nodes n new ∙ ap (slice_set (map node_of nodes) n) (written ∙ ap (λ (x : Node). record x { arcs = slice_set x.arcs s m }) same)
  where
    -- a node of equal parts
    node_eq : (x : Node) (name : List ℕ) (kind : Kind) (arcs : List ℕ) → x.name ≡ name → x.kind ≡ kind → x.arcs ≡ arcs → x ≡ record { name = name; kind = kind; arcs = arcs }
    node_eq x name kind arcs e f h =
        ap (λ n. made n x.kind x.arcs) e ∙ (ap (λ k. made name k x.arcs) f ∙ ap (made name kind) h)

-- the edit of an arc whose checks pass
pub arc_edit : (g : Graph) (from slot to : List ℕ) (n s m : ℕ) (node target : Node) → node_named g from ≡ Some n → slice_get g.nodes n ≡ Some node
    → place_of (λ slot. slot) slot (slots node.kind) ≡ Some s → node_named g to ≡ Some m → slice_get g.nodes m ≡ Some target
    → is_source target.kind ≡ false → leads g (length g.nodes) m n ≡ false → with_arc g from slot to ≡ Ok (arc_set g n node s m)
arc_edit g from slot to n s m node target e1 e2 e3 e4 e5 e6 e7 = rw (e1, e2, e3, e4, e5, e6, e7) refl

-- an option that is no value
pub is_none : (o : Option ℕ) → is_some o ≡ false → o ≡ None
is_none None e = refl
is_none (Some x) e = absurd (true≢false e)

-- an option that passed is a value
pub passed : (o : Option ℕ) (error : GraphError) (x : ℕ) → ok_or o error ≡ Ok x → o ≡ Some x
passed None error x e = cc
passed (Some y) error x e = cc

-- an arc whose checks pass
pub new_arc : (g : Graph) (from slot to : List ℕ) (arc : NewArc) (kind target : Kind) → node_named g from ≡ Some arc.node → kind_at g arc.node ≡ Some kind
    → place_of (λ slot. slot) slot (slots kind) ≡ Some arc.slot → node_named g to ≡ Some arc.target → kind_at g arc.target ≡ Some target
    → is_source target ≡ false → leads g (length g.nodes) arc.target arc.node ≡ false → IsNewArc g from slot to arc
new_arc g from slot to arc kind target e1 e2 e3 e4 e5 e6 e7 =
    let node = map_some (λ (x : Node). x.kind) (slice_get g.nodes arc.node) kind e2 in
    let end = map_some (λ (x : Node). x.kind) (slice_get g.nodes arc.target) target e5 in
    let place = found_name (λ slot. slot) slot 0 (slots kind) arc.slot e3 in
    let within : place.0 < length (slots kind) = slice_get_within (slots kind) place.0 place.1 place.3 in
    let small : arc.slot < length (slots kind) = omega (arith, within, place.2) in
    record {
      node = node.0;
      here = node.1;
      within = subst (λ k. arc.slot < length (slots k)) (sym node.2) small;
      target = subst IsTarget (sym e5) (may_be_target target e6);
      test = e7;
      edit =
          arc_edit g from slot to arc.node arc.slot arc.target node.0 end.0 e1 node.1 (ap (λ k. place_of (λ slot. slot) slot (slots k)) node.2 ∙ e3) e4 end.1
          (ap is_source end.2 ∙ e6) e7;
    }
