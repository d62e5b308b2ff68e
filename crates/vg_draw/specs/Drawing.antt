-- The drawing of a graph in the DOT language, line by line.
use Rattle.std.specs.Prelude.{ℕ, suc, ◌+◌, ◌-◌, ◌*◌, ◌/◌, min, max, ◌==◌, ◌||◌, Bool, true, false, List, [], ◌∷◌, ◌++◌, map, flat_map, length, count_by, slice_get, codes, decimal, bytes_eq, Option, Some, None, option_map, option_and_then, unwrap_or, if◌then◌else◌}
use Rattle.std.specs.List.{fold, list_any, position_from, join_with_byte}
use Rattle.vg_model.specs.declared.kinds.Adjacency.{Adjacency}
use Rattle.vg_model.specs.declared.kinds.DropError.{DropError}
use Rattle.vg_model.specs.declared.kinds.Interface.{Interface}
use Rattle.vg_model.specs.declared.kinds.Kind.{Kind}
use Rattle.vg_model.specs.declared.kinds.Kind.TheVariants as kinds
use Rattle.vg_model.specs.declared.names.Mac.{Mac}
use Rattle.vg_model.specs.Errors.{error_word}
use Rattle.vg_model.specs.declared.fates.Leg.{Leg}
use Rattle.vg_model.specs.Graph.{Graph, Node, kind_entry, slots, handoff_dequeue, error_drop}
use Rattle.vg_report.specs.declared.reports.Report.{Report}
use Rattle.vg_report.specs.declared.reports.PacketLine.{PacketLine}
use Rattle.vg_draw.specs.declared.ways.Ways.{Ways}
use Rattle.vg_draw.specs.Prefixes.{Tables, tables_of, prefixes_text}
pub use Rattle.vg_draw.specs.Prefixes.{pair_text}

-- a link-layer address: six pairs parted by `:`
abbrev pub mac_text : Mac → List ℕ
mac_text mac = join_with_byte 58 (map pair_text mac.0)

-- the name of a kind, also of one that scripts make no nodes of
abbrev pub kind_word : Kind → List ℕ
kind_word kind = (kind_entry kind).name

-- the count of a name
abbrev pub counted_in : List (List ℕ × ℕ) → List ℕ → Option ℕ
counted_in entries name =
    option_and_then (λ place. option_map (λ (e : List ℕ × ℕ). e.1) (slice_get entries place)) (position_from (λ (e : List ℕ × ℕ). bytes_eq e.0 name) 0 entries)

-- what is left of a node's visits, once those are taken off that it dropped with an error
abbrev pub less : List ℕ → ℕ → List ℕ × DropError × ℕ → ℕ
less name left entry = if bytes_eq entry.0 name then left - entry.2 else left

-- how many packets a node passed on: its visits, less those that it dropped
abbrev pub passed_on : List (List ℕ × DropError × ℕ) → List ℕ → (visits : ℕ) → ℕ
passed_on errors name visits = fold (less name) visits errors

-- how many packets a report says that a node passed on
abbrev pub passed_count : Option Report → List ℕ → Option ℕ
passed_count None name = None
passed_count (Some report) name = option_map (λ visits. passed_on report.errors name visits) (counted_in report.nodes name)

-- what each arc of a node with so many slots carried, where that is known: all that the node passed on where it has one slot, and nothing where it passed
-- nothing on. A report counts by node, so it doesn't tell what each of two arcs carried
abbrev pub carried : (slots passed : ℕ) → Option ℕ
carried slots passed = if slots == 1 || passed == 0 then Some passed else None

-- the same of a node by its name and its kind
abbrev pub arc_count : Option Report → List ℕ → Kind → Option ℕ
arc_count report name kind = option_and_then (λ passed. carried (length (slots kind)) passed) (passed_count report name)

-- how many packets a report says were transmitted on an interface
abbrev pub sent_count : Option Report → List ℕ → Option ℕ
sent_count None name = None
sent_count (Some report) name = counted_in report.interfaces name

-- how many packets the run of a report had
abbrev pub packets_of : Option Report → ℕ
packets_of None = 0
packets_of (Some report) = length report.packets

-- the width of a line that carried so many of a run's packets: 1 to 5, by their share
abbrev pub width : (packets count : ℕ) → ℕ
width packets count = 1 + min count packets * 4 / max packets 1

-- a further line of a label: `\n`, a word, a space and a number
abbrev pub count_text : List ℕ → ℕ → List ℕ
count_text word count = 92 ∷ 110 ∷ (word ++ (32 ∷ decimal count))

-- the same for a count that is there
abbrev pub counted_text : List ℕ → Option ℕ → List ℕ
counted_text word None = []
counted_text word (Some count) = count_text word count

-- what a report tells of a node: its visits
abbrev pub node_counts : Option Report → List ℕ → List ℕ
node_counts None name = []
node_counts (Some report) name = counted_text (codes "visits") (counted_in report.nodes name)

-- a report tells that a node was never visited
abbrev pub is_unvisited : Option Report → List ℕ → Bool
is_unvisited None name = false
is_unvisited (Some report) name = unwrap_or (option_map (λ visits. visits == 0) (counted_in report.nodes name)) false

-- the name of a thing in the text: a letter and its number
abbrev pub id : ℕ → ℕ → List ℕ
id letter number = letter ∷ decimal number

-- a node, an interface, an adjacency: `n3`, `i0`, `a2`
abbrev pub node_id : ℕ → List ℕ
node_id = id 110

abbrev pub interface_id : ℕ → List ℕ
interface_id = id 105

abbrev pub adjacency_id : ℕ → List ℕ
adjacency_id = id 97

-- the kind of a node as a further line of its label, where its name is another word
abbrev pub kind_text : List ℕ → Kind → List ℕ
kind_text name kind = if bytes_eq (kind_word kind) name then [] else 92 ∷ 110 ∷ kind_word kind

-- grey where nothing came
abbrev pub grey_text : Bool → List ℕ
grey_text false = []
grey_text true = codes ", color=grey, fontcolor=grey"

-- the looks of a line by what it carried: grey for nothing, else as wide as its share
abbrev pub looks_text : (packets count : ℕ) → List ℕ
looks_text packets count = if count == 0 then grey_text true else codes ", penwidth=" ++ decimal (width packets count)

-- the same where that is known
abbrev pub share_text : (packets : ℕ) → Option ℕ → List ℕ
share_text packets None = []
share_text packets (Some count) = looks_text packets count

-- a count behind a word, where there is one
abbrev pub behind_text : Option ℕ → List ℕ
behind_text None = []
behind_text (Some count) = 32 ∷ decimal count

-- the label of a line, its word and what it carried, and its looks. A blank keeps the label off a wide line
abbrev pub carrying : (packets : ℕ) → List ℕ → Option ℕ → List ℕ
carrying packets word count = codes "label=" ++ (34 ∷ (32 ∷ (word ++ (behind_text count ++ (34 ∷ share_text packets count)))))

-- a dashed line from a node, by what it carried
abbrev pub dashed : (packets : ℕ) → ℕ → List ℕ → Option ℕ → List ℕ
dashed packets number target count = 32 ∷ (node_id number ++ (codes " -> " ++ (target ++ (codes " [style=dashed" ++ (share_text packets count ++ codes "];")))))

-- where packets go from a node other than over its arcs: onto the wire, or by a queue to the node that takes from the queues
abbrev pub leaving : Option Report → ℕ → List ℕ → Kind → List ℕ
leaving report number name kinds.InterfaceTx = dashed (packets_of report) number (codes "wire") (passed_count report name)
leaving report number name (kinds.WorkerHandoff hash) = dashed (packets_of report) number (codes "n1") None
leaving report number name kind = []

-- red where an interface is down
abbrev pub down_text : Bool → List ℕ
down_text up = if up then [] else codes ", color=red, fontcolor=red"

-- the line of a node of a name and a kind: `n3`, and as label its name, its kind where that is another word, and its visits
abbrev pub node_line : Option Report → ℕ → List ℕ → Kind → List ℕ
node_line report number name kind =
    codes "  " ++ (node_id number ++ (codes " [label=" ++ (34 ∷ (name ++ (kind_text name kind ++ (node_counts report name
    ++ (34 ∷ (grey_text (is_unvisited report name) ++ (codes "];" ++ (leaving report number name kind ++ 10 ∷ []))))))))))

-- a node of this kind hands packets over to other workers
abbrev pub hands_over : Kind → Bool
hands_over (kinds.WorkerHandoff hash) = true
hands_over kind = false

-- one of these nodes hands packets over
abbrev pub any_hands_over : List Node → Bool
any_hands_over nodes = list_any (λ (node : Node). hands_over node.kind) nodes

-- one of these arcs leads to the node that drops
abbrev pub leads_to_drop : List ℕ → Bool
leads_to_drop arcs = list_any (λ target. target == error_drop) arcs

-- a report has a drop of the node of this name
abbrev pub has_drop : Option Report → List ℕ → Bool
has_drop None name = false
has_drop (Some report) name = list_any (λ (e : List ℕ × DropError × ℕ). bytes_eq e.0 name) report.errors

-- a node drops packets: an arc of it leads to the node that drops, or a report has a drop of it
abbrev pub drops : Option Report → Node → Bool
drops report node = leads_to_drop node.arcs || has_drop report node.name

-- one of these nodes drops packets
abbrev pub any_drops : Option Report → List Node → Bool
any_drops report nodes = list_any (drops report) nodes

-- what comes to the node that takes packets from the queues, and to the node that drops
abbrev pub ways_of : Option Report → List Node → Ways
ways_of report nodes = record { handed = any_hands_over nodes; dropped = any_drops report nodes }

-- the node of this number stands in a drawing: the one that takes packets from the queues where some are handed over, the one that drops where some are
-- dropped, and each other
abbrev pub is_drawn : Ways → ℕ → Bool
is_drawn ways number = if number == handoff_dequeue then ways.handed else if number == error_drop then ways.dropped else true

-- the line of a node that stands in the drawing, and none of another
abbrev pub drawn_line : Ways → Option Report → ℕ → List ℕ → Kind → List ℕ
drawn_line ways report number name kind = if is_drawn ways number then node_line report number name kind else []

-- the line of an arc from a node of a name and a kind to another: as label it has the name of the slot, and what it carried
abbrev pub arc_line : Option Report → ℕ → List ℕ → Kind → ℕ → ℕ → List ℕ
arc_line report number name kind slot target =
    codes "  " ++ (node_id number ++ (codes " -> " ++ (node_id target ++ (codes " ["
    ++ (carrying (packets_of report) (unwrap_or (slice_get (slots kind) slot) []) (arc_count report name kind) ++ (codes "];" ++ 10 ∷ []))))))

-- a red line from a node to the node that drops, with an error and how often the node dropped with it
abbrev pub drop_text : (packets : ℕ) → ℕ → DropError → ℕ → List ℕ
drop_text packets number error count =
    codes "  " ++ (node_id number ++ (codes " -> n8 [" ++ (carrying packets (error_word error) (Some count) ++ (codes ", color=red, fontcolor=red];" ++ 10 ∷ []))))

-- the line of a report's entry, where it is the node's
abbrev pub drop_line : (packets : ℕ) → ℕ → List ℕ → List ℕ × DropError × ℕ → List ℕ
drop_line packets number name entry = if bytes_eq entry.0 name then drop_text packets number entry.1 entry.2 else []

-- the lines of a node's drops, in the order of the report
abbrev pub drop_lines : Option Report → ℕ → List ℕ → List ℕ
drop_lines None number name = []
drop_lines (Some report) number name = flat_map (drop_line (length report.packets) number name) report.errors

-- a line for each element, with its number from this one on
abbrev pub numbered : {X : Type 0} → (ℕ → X → List ℕ) → ℕ → List X → List (List ℕ)
numbered f number [] = []
numbered f number (x ∷ xs) = f number x ∷ numbered f (suc number) xs

-- lines in a row
abbrev pub all_of : List (List ℕ) → List ℕ
all_of lines = flat_map (λ line. line) lines

-- the lines of a node's arcs, by slot
abbrev pub arc_lines : Option Report → ℕ → List ℕ → Kind → List ℕ → List ℕ
arc_lines report number name kind arcs = all_of (numbered (arc_line report number name kind) 0 arcs)

-- `up` or `down`, and `filter` where the interface filters
abbrev pub state_text : Bool → Bool → List ℕ
state_text up filter = (if up then codes " up" else codes " down") ++ (if filter then codes " filter" else [])

-- the label of an interface: its name, its address, its mtu and its state
abbrev pub interface_label : Interface → List ℕ
interface_label interface =
    interface.name ++ (92 ∷ 110 ∷ (mac_text interface.mac ++ (92 ∷ 110 ∷ (codes "mtu " ++ (decimal interface.mtu ++ state_text interface.up interface.filter)))))

-- what was transmitted on an interface, as the label and the looks of the line to it
abbrev pub sent_text : (packets : ℕ) → Option ℕ → List ℕ
sent_text packets None = []
sent_text packets (Some count) = codes ", " ++ carrying packets (codes "tx") (Some count)

-- the line of an interface, red where it is down, and the dashed line to it
abbrev pub interface_line : Option Report → ℕ → Interface → List ℕ
interface_line report number interface =
    codes "  " ++ (interface_id number ++ (codes " [shape=house, label=" ++ (34 ∷ (interface_label interface ++ (34 ∷ (down_text interface.up
    ++ (codes "]; wire -> " ++ (interface_id number ++ (codes " [style=dashed" ++ (sent_text (packets_of report) (sent_count report interface.name)
    ++ (codes "];" ++ 10 ∷ [])))))))))))

-- the label of a neighbor: its name, its address, and the prefixes that are routed over it
abbrev pub adjacency_label : (before now : Tables) → ℕ → Adjacency → List ℕ
adjacency_label before now number adjacency = adjacency.name ++ (codes "<BR/>" ++ (mac_text adjacency.mac ++ prefixes_text number before now))

-- the line of a neighbor: its label, and the interface that it is behind
abbrev pub adjacency_line : (before now : Tables) → ℕ → Adjacency → List ℕ
adjacency_line before now number adjacency =
    codes "  " ++ (adjacency_id number ++ (codes " [style=rounded, label=<" ++ (adjacency_label before now number adjacency
    ++ (codes ">]; " ++ (interface_id adjacency.interface ++ (codes " -> " ++ (adjacency_id number ++ (codes " [style=dashed];" ++ 10 ∷ []))))))))

-- the packet began in this generation
abbrev pub began_in : ℕ → PacketLine → Bool
began_in generation packet = unwrap_or (option_map (λ (leg : Leg). leg.generation == generation) (slice_get packet.legs 0)) false

-- how many packets began in a generation
abbrev pub began_text : Option Report → ℕ → List ℕ
began_text None generation = []
began_text (Some report) generation = codes ", " ++ (decimal (count_by (began_in generation) report.packets) ++ codes " packets")

-- the label of a drawing: the generation, from when on it was the graph, and how many packets began in it
abbrev pub generation_label : Option Report → (generation from : ℕ) → List ℕ
generation_label report generation from =
    codes "generation " ++ (decimal generation ++ (codes ", from " ++ (decimal from ++ (codes " us" ++ began_text report generation))))

-- the first lines
abbrev pub head_text : Option Report → (generation from : ℕ) → List ℕ
head_text report generation from =
    codes "digraph " ++ (34 ∷ (codes "generation " ++ (decimal generation ++ (34 ∷ (codes " {" ++ 10 ∷ (codes "  label=" ++ (34 ∷ (generation_label report generation from
    ++ (34 ∷ (codes ";" ++ 10 ∷ (codes "  labelloc=t;" ++ 10 ∷ (codes "  node [shape=box];" ++ 10 ∷ (codes "  wire [shape=point];" ++ 10 ∷ [])))))))))))))

-- the lines of the nodes that stand in the drawing, by number
abbrev pub drawn_lines : Ways → Option Report → List Node → List ℕ
drawn_lines ways report nodes = all_of (numbered (λ number node. drawn_line ways report number node.name node.kind) 0 nodes)

abbrev pub node_lines : Option Report → List Node → List ℕ
node_lines report nodes = drawn_lines (ways_of report nodes) report nodes

-- the lines of all arcs, by node and slot
abbrev pub all_arc_lines : Option Report → List Node → List ℕ
all_arc_lines report nodes = all_of (numbered (λ number node. arc_lines report number node.name node.kind node.arcs) 0 nodes)

-- the lines of all drops, by node and error
abbrev pub all_drop_lines : Option Report → List Node → List ℕ
all_drop_lines report nodes = all_of (numbered (λ number node. drop_lines report number node.name) 0 nodes)

-- the lines of the interfaces, and of the neighbors, by number
abbrev pub interface_lines : Option Report → List Interface → List ℕ
interface_lines report interfaces = all_of (numbered (interface_line report) 0 interfaces)

abbrev pub adjacency_lines : (before now : Tables) → List Adjacency → List ℕ
adjacency_lines before now adjacencies = all_of (numbered (adjacency_line before now) 0 adjacencies)

-- the drawing of a generation's graph that is its graph from this time on, behind the routes of the generation before: a line for each node, by number, for each arc, by node
-- and slot, for each error of each node, and for each interface and neighbor
abbrev pub drawing : Option Report → (generation from : ℕ) → (before : Tables) → Graph → List ℕ
drawing report generation from before g =
    head_text report generation from ++ (node_lines report g.nodes ++ (all_arc_lines report g.nodes ++ (all_drop_lines report g.nodes ++ (interface_lines report g.interfaces
    ++ (adjacency_lines before (tables_of g) g.adjacencies ++ 125 ∷ 10 ∷ [])))))
