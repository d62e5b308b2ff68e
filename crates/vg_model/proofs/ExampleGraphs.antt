-- For worked examples alone: their graphs, and runs over them.
use Rattle.std.proofs.Common.{◌≡◌, ℕ, suc, ◌-◌, ◌%◌, ◌^◌, ◌≤◌, lit≤, refl, List, [], ◌∷◌, ◌++◌, map, Some, None}
use Rattle.std.specs.Prelude.{codes, Option, option_map, unwrap_or, Ok, Err}
use Rattle.vg_model.specs.declared.fates.End.{End}
use Rattle.vg_model.specs.declared.fates.Fate.{Fate}
use Rattle.vg_model.specs.declared.fates.Leg.{Leg}
use Rattle.vg_model.specs.declared.kinds.HashKind.TheVariants.{Src, Dst}
use Rattle.vg_model.specs.declared.kinds.Kind.TheVariants as kinds
use Rattle.vg_model.specs.declared.names.Mac.{Mac}
use Rattle.vg_model.specs.declared.edits.Edit.{Edit}
use Rattle.vg_model.specs.declared.edits.EditLine.{EditLine}
use Rattle.vg_model.specs.declared.edits.Edit.TheVariants as edits
use Rattle.vg_model.specs.declared.routes.Prefix.{Prefix}
use Rattle.vg_model.specs.declared.routes.RouteWord.TheVariants as words
use Rattle.vg_model.specs.Graph.{Graph}
use Rattle.vg_model.specs.Start.{start_graph}
use Rattle.vg_model.specs.Edit.{apply_all}
use Rattle.vg_model.specs.Visit.{ip4_visit}
use Rattle.vg_model.specs.Journey.{Choice, Journey, journeys, fates, sent}
use Rattle.vg_model.specs.Count.{node_count}

-- edits on lines from a number on
abbrev pub lines_from : ℕ → List Edit → List EditLine
lines_from n [] = []
lines_from n (e ∷ es) = record { line = n; edit = e } ∷ lines_from (suc n) es

-- the start graph with these edits, or without them where one is refused
abbrev pub built : List Edit → Graph
built es = elim (apply_all start_graph (lines_from 1 es)) [ Ok g ↦ g | Err refusal ↦ start_graph ]

-- a link-layer address by its last byte
abbrev pub mac : ℕ → Mac
mac last = record { 0 = 2 ∷ 0 ∷ 0 ∷ 0 ∷ 0 ∷ last ∷ [] }

-- the adjacency of this name, on an interface, to an address with this last byte
abbrev pub adjacency : (name interface : List ℕ) (last : ℕ) → Edit
adjacency name interface last = edits.Adjacency name interface (mac last)

-- a prefix
abbrev pub prefix : (addr len : ℕ) → len ≤ 32 → addr % 2 ^ (32 - len) ≡ 0 → Prefix
prefix addr len few host_bits = record { addr = addr; len = len; few = few; host_bits = host_bits }

-- a route to a prefix over an adjacency
abbrev pub route : Prefix → (via : List ℕ) → Edit
route to via = edits.Route to (words.Via (via ∷ []))

-- the prefix that covers every address
abbrev pub everywhere : Prefix
everywhere = prefix 0 0 (lit≤ tt) refl

-- frames go from the Ethernet input out again
abbrev pub wire : Graph
wire = built (edits.Arc (codes "ethernet-input") (codes "ip4") (codes "interface-tx") ∷ [])

-- all packets go to one neighbor
abbrev pub east : Graph
east = built (adjacency (codes "east") (codes "pg0") 9 ∷ route everywhere (codes "east") ∷ [])

-- the wire behind a handoff by the destination's hash
abbrev pub hand_edits : List Edit
hand_edits =
    edits.Node (codes "hand") (kinds.WorkerHandoff Dst)
    ∷ edits.Arc (codes "hand") (codes "resume") (codes "ethernet-input")
    ∷ edits.Arc (codes "pg-input") (codes "out") (codes "hand")
    ∷ edits.Arc (codes "ethernet-input") (codes "ip4") (codes "interface-tx")
    ∷ []

-- its graph
abbrev pub hand : Graph
hand = built hand_edits

-- the same, with all packets dropped behind the Ethernet input
abbrev pub hand_to_drop : Graph
hand_to_drop = built (hand_edits ++ edits.Arc (codes "ethernet-input") (codes "ip4") (codes "error-drop") ∷ [])

-- five handoffs one behind the other, by the destination's and the source's hash in turn
abbrev pub five_handoffs : Graph
five_handoffs =
    built
    (edits.Node (codes "h1") (kinds.WorkerHandoff Dst)
    ∷ edits.Node (codes "h2") (kinds.WorkerHandoff Src)
    ∷ edits.Node (codes "h3") (kinds.WorkerHandoff Dst)
    ∷ edits.Node (codes "h4") (kinds.WorkerHandoff Src)
    ∷ edits.Node (codes "h5") (kinds.WorkerHandoff Dst)
    ∷ edits.Arc (codes "h1") (codes "resume") (codes "h2")
    ∷ edits.Arc (codes "h2") (codes "resume") (codes "h3")
    ∷ edits.Arc (codes "h3") (codes "resume") (codes "h4")
    ∷ edits.Arc (codes "h4") (codes "resume") (codes "h5")
    ∷ edits.Arc (codes "h5") (codes "resume") (codes "ethernet-input")
    ∷ edits.Arc (codes "pg-input") (codes "out") (codes "h1")
    ∷ [])

-- legs under these generations, the last of which ends on an interface or with a drop
abbrev pub under : List ℕ → Choice
under generations = record { generations = generations; accepted = None }

-- legs under these generations, the last of which ends at a queue that refused the packet after it had accepted so many
abbrev pub refused_under : List ℕ → ℕ → Choice
refused_under generations accepted = record { generations = generations; accepted = Some accepted }

-- what a run of packets by these choices comes to, over so many workers
abbrev pub run : List Graph → (workers : ℕ) → List (List ℕ) → List Choice → Option (List Journey)
run graphs workers packets choices = journeys ip4_visit graphs workers packets choices

-- the journeys of a run; none where it is undefined
abbrev pub journeys_of : List Graph → (workers : ℕ) → List (List ℕ) → List Choice → List Journey
journeys_of graphs workers packets choices = unwrap_or (run graphs workers packets choices) []

-- the same on one worker by one graph, where each packet has one leg
abbrev pub run_alone : Graph → List (List ℕ) → Option (List Journey)
run_alone g packets = run (g ∷ []) 1 packets (map (λ p. under (0 ∷ [])) packets)

-- what became of the packets then
abbrev pub fates_alone : Graph → List (List ℕ) → Option (List Fate)
fates_alone g packets = option_map fates (run_alone g packets)

-- what was transmitted then
abbrev pub sent_alone : Graph → List (List ℕ) → Option (List (ℕ × List ℕ))
sent_alone g packets = option_map sent (run_alone g packets)

-- the fate of a packet with one leg, on worker 0 under generation 0
abbrev pub ended : ℕ → End → Fate
ended number end = record { number = number; legs = record { worker = 0; generation = 0 } ∷ []; congested = None; end = end }

-- a leg on a worker under generation 0
abbrev pub leg_on : ℕ → Leg
leg_on worker = record { worker = worker; generation = 0 }

-- how often these nodes visited packets
abbrev pub node_counts : List ℕ → List Journey → List ℕ
node_counts nodes js = map (λ node. node_count node js) nodes
