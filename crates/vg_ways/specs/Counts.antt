-- The table of counts as text.
use Rattle.std.specs.Prelude.{ℕ, zero, suc, ◌==◌, List, [], ◌∷◌, ◌++◌, length, flat_map, codes, slice_get, Option, Some, None, option_map, if◌then◌else◌}
use Rattle.std.specs.List.{list_any}
use Rattle.vg_model.specs.declared.edits.Edit.{Edit}
use Rattle.vg_model.specs.declared.edits.Edit.TheVariants as edits
use Rattle.vg_model.specs.declared.edits.EditLine.{EditLine}
use Rattle.vg_model.specs.declared.kinds.DropError.{DropError}
use Rattle.vg_model.specs.declared.routes.Prefix.{Prefix}
use Rattle.vg_model.specs.declared.routes.Prefix6.{Prefix6}
use Rattle.vg_model.specs.Errors.{all_errors, error_word}
use Rattle.vg_model.specs.Graph.{Graph}
use Rattle.vg_model.specs.Route.{same_prefix, same_prefix6}
use Rattle.vg_plan.specs.Plan.{Planned}
use Rattle.vg_script.specs.declared.scripts.Script.{Script}
use Rattle.vg_script.specs.Events.{events}
use Rattle.vg_story.specs.declared.pieces.Value.{Value}
use Rattle.vg_story.specs.declared.pieces.Value.TheVariants as values
use Rattle.vg_story.specs.Text.{value_text, neighbor_name, interface_name, node_name}
use Rattle.vg_ways.specs.declared.entries.Entry.{Entry}
use Rattle.vg_ways.specs.declared.tables.Size.{Size}
use Rattle.vg_ways.specs.Events.{event_of, time_of}
use Rattle.vg_ways.specs.Lines.{edits_to, lined, route_line, route6_line}
use Rattle.vg_ways.specs.Logs.{under, within, all_of, tally_at}
use Rattle.vg_ways.specs.Tallied.{Tallied, tallied}
use Rattle.vg_ways.specs.Ways.{numbered, numbered_if}

-- the texts of the first so many numbers, one behind the other
abbrev pub texts_below : (ℕ → List ℕ) → ℕ → List ℕ
texts_below text zero = []
texts_below text (suc number) = texts_below text number ++ text number

-- a word, a number, and the end of the line
abbrev pub last_count : List ℕ → ℕ → List ℕ
last_count word count = numbered word count ++ 10 ∷ []

-- the line of the script that set a route; nothing where there is none
abbrev pub set_text : ℕ → List ℕ
set_text line = if line == 0 then [] else numbered (codes " line ") line

-- the line of a route
abbrev pub route_text : Graph → Value → (line count : ℕ) → List ℕ
route_text names prefix line count = codes "  route " ++ (value_text names prefix ++ (set_text line ++ last_count (codes " matched ") count))

-- the lines of these routes, each with how often it matched
abbrev pub routes_text : Graph → (matched : Prefix → ℕ) → List (Prefix × ℕ) → List ℕ
routes_text names matched routes = flat_map (λ route. route_text names (values.Prefix route.0) route.1 (matched route.0)) routes

abbrev pub routes6_text : Graph → (matched : Prefix6 → ℕ) → List (Prefix6 × ℕ) → List ℕ
routes6_text names matched routes = flat_map (λ route. route_text names (values.Prefix6 route.0) route.1 (matched route.0)) routes

-- the line of a neighbor, and of the packets that were transmitted to none, where there are some
abbrev pub neighbor_text : Graph → (left : ℕ → ℕ) → ℕ → List ℕ
neighbor_text names left n = codes "  neighbor " ++ (neighbor_name names n ++ last_count (codes " left ") (left n))

abbrev pub alone_text : ℕ → List ℕ
alone_text count = if count == 0 then [] else last_count (codes "  no-neighbor left ") count

-- the line of an interface
abbrev pub interface_text : Graph → (sent : ℕ → ℕ) → ℕ → List ℕ
interface_text names sent n = codes "  interface " ++ (interface_name names n ++ last_count (codes " tx ") (sent n))

-- the line of a node's drops with an error, where there are some
abbrev pub drop_line : Graph → ℕ → DropError → ℕ → List ℕ
drop_line names node error count =
    if count == 0 then [] else codes "  drop " ++ (node_name names node ++ (32 ∷ (error_word error ++ last_count (32 ∷ []) count)))

-- the lines of a node's drops
abbrev pub node_text : Graph → (dropped : ℕ → DropError → ℕ) → ℕ → List ℕ
node_text names dropped node = flat_map (λ error. drop_line names node error (dropped node error)) all_errors

-- how many neighbors, interfaces and nodes there are
abbrev pub size_of : Graph → Size
size_of g = record { neighbors = length g.adjacencies; interfaces = length g.interfaces; nodes = length g.nodes }

-- the lines of neighbors, interfaces and drops, as many as there are
abbrev pub ends_text : Graph → Size → Tallied → List ℕ
ends_text names size t =
    texts_below (neighbor_text names t.left) size.neighbors
    ++ (alone_text t.alone ++ (texts_below (interface_text names t.sent) size.interfaces ++ texts_below (node_text names t.dropped) size.nodes))

-- the line that begins the table of a generation
abbrev pub head_text : Script → (generation packets : ℕ) → List ℕ
head_text script generation packets =
    numbered (codes "generation ") generation
    ++ (numbered (codes " time ") (time_of script generation)
    ++ (numbered_if (codes " line ") (option_map (λ event. event.line) (event_of script generation)) ++ last_count (codes " packets ") packets))

-- the table of a generation with this graph
abbrev pub table_text : Script → Graph → (generation : ℕ) → Graph → Tallied → List ℕ
table_text script names generation g t =
    head_text script generation t.began
    ++ (routes_text names t.matched (lined (route_line script generation) g.routes)
    ++ (routes6_text names t.matched6 (lined (route6_line script generation) g.routes6) ++ ends_text names (size_of g) t))

-- that of a generation with this graph, where there is one
abbrev pub table_at : Planned → Graph → (generation : ℕ) → Tallied → Option Graph → List ℕ
table_at plan names generation t None = []
table_at plan names generation t (Some g) = table_text plan.script names generation g t

-- that of the generation of a number, by its entries
abbrev pub generation_text : Planned → Graph → List (ℕ × Entry) → ℕ → List ℕ
generation_text plan names entries generation = table_at plan names generation (tallied (under generation entries)) (slice_get plan.graphs generation)

-- those of all generations
abbrev pub tables_text : Planned → Graph → List Tallied → List ℕ
tables_text plan names tallies =
    texts_below (λ generation. table_at plan names generation (tally_at tallies generation) (slice_get plan.graphs generation)) (length tallies)

-- ---- of all generations

-- prefixes with one more, where it isn't among them
abbrev pub with_prefix : List (Prefix × ℕ) → Prefix → List (Prefix × ℕ)
with_prefix known prefix = if list_any (λ k. same_prefix k.0 prefix) known then known else known ++ (prefix, 0) ∷ []

abbrev pub with_prefix6 : List (Prefix6 × ℕ) → Prefix6 → List (Prefix6 × ℕ)
with_prefix6 known prefix = if list_any (λ k. same_prefix6 k.0 prefix) known then known else known ++ (prefix, 0) ∷ []

-- with the prefix of the route that an edit sets
abbrev pub with_set : List (Prefix × ℕ) → Edit → List (Prefix × ℕ)
with_set known (edits.Route prefix to) = with_prefix known prefix
with_set known edit = known

abbrev pub with_set6 : List (Prefix6 × ℕ) → Edit → List (Prefix6 × ℕ)
with_set6 known (edits.Route6 prefix to) = with_prefix6 known prefix
with_set6 known edit = known

-- with those of the routes that these edits set
abbrev pub with_sets : List (Prefix × ℕ) → List EditLine → List (Prefix × ℕ)
with_sets known [] = known
with_sets known (edit ∷ edits) = with_sets (with_set known edit.edit) edits

abbrev pub with_sets6 : List (Prefix6 × ℕ) → List EditLine → List (Prefix6 × ℕ)
with_sets6 known [] = known
with_sets6 known (edit ∷ edits) = with_sets6 (with_set6 known edit.edit) edits

-- the edits of all generations
abbrev pub all_edits : Script → List EditLine
all_edits script = edits_to script (length (events script))

-- the table of all packets: the prefixes of all routes that there ever were, each once, and without lines
abbrev pub all_text : Planned → Graph → Tallied → List ℕ
all_text plan names t =
    last_count (codes "all packets ") t.began
    ++ (routes_text names t.matched (with_sets [] (all_edits plan.script))
    ++ (routes6_text names t.matched6 (with_sets6 [] (all_edits plan.script)) ++ ends_text names (size_of names) t))

-- the tables of all generations, that of all packets, and a last line; `names` is the last graph
abbrev pub counts_text : Planned → Graph → List (ℕ × Entry) → List ℕ
counts_text plan names entries =
    texts_below (generation_text plan names entries) (length plan.graphs)
    ++ (all_text plan names (tallied (all_of (within (length plan.graphs) entries))) ++ codes "end\n")
