-- The graph that a run starts from (this project's profile).
use Rattle.std.specs.Prelude.{ℕ, true, false, List, [], ◌∷◌, codes}
use Rattle.vg_model.specs.declared.kinds.Kind.{Kind}
use Rattle.vg_model.specs.declared.kinds.Kind.TheVariants as kinds
use Rattle.vg_model.specs.Graph.{Graph, Node}

-- a node
abbrev pub node : List ℕ → Kind → List ℕ → Node
node name kind arcs = record { name = name; kind = kind; arcs = arcs }

-- nine nodes in a row, one interface, no neighbors and no routes
abbrev pub start_graph : Graph
start_graph = record {
  nodes =
      node (codes "pg-input") kinds.PgInput (2 ∷ [])
      ∷ node (codes "handoff-dequeue") kinds.HandoffDequeue []
      ∷ node (codes "ethernet-input") kinds.EthernetInput (3 ∷ [])
      ∷ node (codes "ip4-input") kinds.Ip4Input (4 ∷ [])
      ∷ node (codes "ip4-lookup") kinds.Ip4Lookup (5 ∷ [])
      ∷ node (codes "ip4-rewrite") kinds.Ip4Rewrite (6 ∷ [])
      ∷ node (codes "interface-output") kinds.InterfaceOutput (7 ∷ [])
      ∷ node (codes "interface-tx") kinds.InterfaceTx []
      ∷ node (codes "error-drop") kinds.ErrorDrop []
      ∷ [];
  interfaces =
      record { name = codes "pg0"; mac = record { 0 = 2 ∷ 254 ∷ 0 ∷ 0 ∷ 0 ∷ 0 ∷ [] }; mtu = 9000; up = true; filter = false }
      ∷ [];
  adjacencies = [];
  routes = [];
  routes6 = [];
}
