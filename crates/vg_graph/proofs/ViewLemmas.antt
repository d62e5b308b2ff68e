-- For `Graph::{start, leads}`, and the clause `number` of `Graph::node`: the graph that contracts see, by its lists.
use Rattle.std.proofs.Common.{◌≡◌, ℕ, List, [], map, length, get_or, ◌<◌, refl, sym, ap, ◌∙◌, lit≤}
use Rattle.std.specs.Prelude.{Some, slice_get, option_map, bytes_eq}
use Rattle.std.proofs.lemmas.List.{length-map}
use Rattle.std.proofs.lemmas.Option.{slice_get-map, slice_get-get_or}
use Rattle.vg_model.specs.declared.kinds.Interface.{Interface}
use Rattle.vg_model.specs.declared.kinds.Adjacency.{Adjacency}
use Rattle.vg_model.specs.Graph as model
use Rattle.vg_model.specs.Start.{start_graph}
use Rattle.vg_model.specs.Edit.{place_of}
use Rattle.vg_model.proofs.SlotLemmas.{position_from-map}
use Rattle.vg_model.proofs.StartValid.{start_valid}
use Rattle.vg_graph.specs.declared.nodes.Node.{Node}
use Rattle.vg_graph.specs.View.{node_of, IsKept}

-- a graph without routes
abbrev pub unrouted : List model.Node → List Interface → List Adjacency → model.Graph
unrouted nodes interfaces adjacencies = record { nodes = nodes; interfaces = interfaces; adjacencies = adjacencies; routes = []; routes6 = [] }

-- equal lists make equal graphs
pub unrouted_eq : (nodes nodes' : List model.Node) (interfaces interfaces' : List Interface) (adjacencies adjacencies' : List Adjacency)
    → nodes ≡ nodes' → interfaces ≡ interfaces' → adjacencies ≡ adjacencies' → unrouted nodes interfaces adjacencies ≡ unrouted nodes' interfaces' adjacencies'
unrouted_eq nodes nodes' interfaces interfaces' adjacencies adjacencies' e f h =
    ap (λ n. unrouted n interfaces adjacencies) e ∙ (ap (λ i. unrouted nodes' i adjacencies) f ∙ ap (λ a. unrouted nodes' interfaces' a) h)

-- a node's place by its name is its place in the graph that contracts see
pub node_place : (name : List ℕ) (nodes : List Node) → place_of (λ n. n.name) name nodes ≡ place_of (λ n. n.name) name (map node_of nodes)
node_place name nodes = sym (position_from-map node_of (λ n. bytes_eq n.name name) 0 nodes)

-- the start graph is valid and keeps the limits
pub start_kept : IsKept start_graph
start_kept = record {
  valid = start_valid;
  no_routes = refl;
  no_routes6 = refl;
  few_nodes = lit≤ tt;
  few_interfaces = lit≤ tt;
  few_adjacencies = lit≤ tt;
}

-- a node by its number is a node of the graph that contracts see
pub seen_at : (seen : List model.Node) (nodes : List Node) (n : ℕ) (d : Node) → map node_of nodes ≡ seen → n < length nodes → slice_get seen n ≡ Some (node_of (get_or nodes n d))
seen_at seen nodes n d e within = ap (λ l. slice_get l n) (sym e) ∙ (slice_get-map node_of nodes n ∙ ap (option_map node_of) (slice_get-get_or nodes n d within))

-- there are as many nodes as contracts see
pub seen_length : (seen : List model.Node) (nodes : List Node) → map node_of nodes ≡ seen → length seen ≡ length nodes
seen_length seen nodes e = ap length (sym e) ∙ length-map nodes node_of
