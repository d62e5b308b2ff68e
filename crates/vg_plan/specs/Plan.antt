-- Plans: the generations of a script, and the packets of each (this project's profile).
use Rattle.std.specs.Prelude.{◌≡◌, ℕ, ◌+◌, ◌<◌, ◌≤◌, ◌↔◌, nat_le, List, [], length, map, count_by, slice_get, Some, Ok, Err}
use Rattle.std.specs.List.{AllByRecursion, enumerate_from}
use Rattle.vg_model.specs.declared.kinds.Kind.TheVariants as kinds
use Rattle.vg_model.specs.Graph.{Graph, kind_at, error_drop}
use Rattle.vg_model.specs.Start.{start_graph}
use Rattle.vg_model.specs.Valid.{IsValid}
use Rattle.vg_model.specs.Edit.{most_nodes, most_interfaces, most_adjacencies, most_routes, apply_all}
use Rattle.vg_capture.specs.declared.captures.Capture.{Capture}
use Rattle.vg_capture.specs.Time.{time}
use Rattle.vg_script.specs.declared.scripts.Script.{Script}
use Rattle.vg_script.specs.Events.{Event, events, generation_at}
use Rattle.vg_script.specs.Generations.{generations_of}
use Rattle.vg_script.specs.Lawful.{IsLawful}

-- what contracts see of a plan: its script, and the graphs that the script makes, by generation
pub record Planned : Type 0 where
  pub script : Script
  pub graphs : List Graph

-- the graphs of a script whose edits can all be made
abbrev pub graphs_of : Script → List Graph
graphs_of script = elim (generations_of script) [ Ok graphs ↦ graphs | Err refusal ↦ [] ]

-- what holds of the graph of every generation: it is valid, and no list is longer than it may be
pub record IsGeneration (g : Graph) : Type 0 where
  pub valid : IsValid g
  pub few_nodes : length g.nodes ≤ most_nodes
  pub few_interfaces : length g.interfaces ≤ most_interfaces
  pub few_adjacencies : length g.adjacencies ≤ most_adjacencies
  pub few_routes : length g.routes ≤ most_routes
  pub few_routes6 : length g.routes6 ≤ most_routes

-- what holds of every plan: the script is lawful, all of its edits can be made, and these are the graphs
pub record IsPlan (plan : Planned) : Type 0 where
  pub lawful : IsLawful plan.script
  pub made : generations_of plan.script ≡ Ok plan.graphs
  pub generations : AllByRecursion IsGeneration plan.graphs

-- the first generation that a packet meets: how many events are up to its time
abbrev pub first_generation : Script → Capture → ℕ → ℕ
first_generation script capture i = generation_at (events script) (time capture i)

-- how many packets begin in this generation or an earlier one
abbrev pub limit_of : Script → Capture → ℕ → ℕ
limit_of script capture generation =
    count_by (λ packet. nat_le (first_generation script capture packet.0) generation) (enumerate_from 0 capture.packets)

-- the limits of a plan's generations
abbrev pub limits_of : Planned → Capture → List ℕ
limits_of plan capture = map (λ g. limit_of plan.script capture g.0) (enumerate_from 0 plan.graphs)

-- the generations of a plan, each with its limit
abbrev pub windows : Planned → Capture → List (Graph × ℕ)
windows plan capture = map {B = Graph × ℕ} (λ g. (g.1, limit_of plan.script capture g.0)) (enumerate_from 0 plan.graphs)

-- the packets that begin in a generation or an earlier one are the first ones, below the limit
abbrev pub LimitsAreFronts : Type 0
LimitsAreFronts =
    (script : Script) (capture : Capture) (generation i : ℕ) → i < length capture.packets
    → (first_generation script capture i ≤ generation) ↔ (i < limit_of script capture generation)

-- the graph of generation 0 is what the edits outside blocks make of the start graph
abbrev pub FirstIsMade : Planned → Type 0
FirstIsMade plan = (first : Graph) × (apply_all start_graph plan.script.start ≡ Ok first) × (slice_get plan.graphs 0 ≡ Some first)

-- the graph of each generation is what the edits of the next event make into the next one's
abbrev pub EventsAreMade : Planned → Type 0
EventsAreMade plan =
    (g : ℕ) (event : Event) → slice_get (events plan.script) g ≡ Some event
    → (before after : Graph) × (slice_get plan.graphs g ≡ Some before) × (slice_get plan.graphs (g + 1) ≡ Some after) × (apply_all before event.edits ≡ Ok after)

-- in the graph of each generation one node alone is of the kind that drops: `error-drop`
abbrev pub DropsAreOne : Planned → Type 0
DropsAreOne plan = (generation : ℕ) (g : Graph) (n : ℕ) → slice_get plan.graphs generation ≡ Some g → kind_at g n ≡ Some kinds.ErrorDrop → n ≡ error_drop
