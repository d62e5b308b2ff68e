-- The text that is printed.
use Rattle.std.specs.Prelude.{ℕ, ◌-◌, ◌<◌, ◌==◌, List, [], slice_get, Option, option_map, unwrap_or, if◌then◌else◌}
use Rattle.vg_model.specs.Graph.{Graph}
use Rattle.vg_script.specs.Events.{Event, events}
use Rattle.vg_plan.specs.Plan.{Planned}
use Rattle.vg_report.specs.declared.reports.Report.{Report}
use Rattle.vg_draw.specs.Prefixes.{Tables, tables_of}
use Rattle.vg_draw.specs.Drawing.{drawing, numbered, all_of}
use Rattle.vg_drawing.specs.declared.words.Which.{Which}
use Rattle.vg_drawing.specs.declared.words.Which.TheVariants.{One, All}

-- when a generation begins: the first at 0, and each other at the time of the event that makes it
abbrev pub begin_of : List Event → ℕ → ℕ
begin_of events n = if n == 0 then 0 else unwrap_or (option_map (λ (e : Event). e.time) (slice_get events (n - 1))) 0

-- the routes of the first of these graphs
abbrev pub first_tables : List Graph → Tables
first_tables graphs = unwrap_or (option_map tables_of (slice_get graphs 0)) (record { routes = []; routes6 = [] })

-- the routes of the generation before one; of the first, its own
abbrev pub tables_before : List Graph → ℕ → Tables
tables_before graphs n = unwrap_or (option_map tables_of (slice_get graphs (n - 1))) (record { routes = []; routes6 = [] })

-- the drawing of a generation's graph
abbrev pub generation_drawing : Option Report → Planned → ℕ → Graph → List ℕ
generation_drawing report plan n g = drawing report n (begin_of (events plan.script) n) (tables_before plan.graphs n) g

-- the drawing of one generation
abbrev pub drawing_at : Option Report → Planned → ℕ → List ℕ
drawing_at report plan n = unwrap_or (option_map (generation_drawing report plan n) (slice_get plan.graphs n)) []

-- the drawings of the generations that are asked for, one behind the other
abbrev pub drawings : Which → Option Report → Planned → List ℕ
drawings (One n) report plan = drawing_at report plan n
drawings All report plan = all_of (numbered (generation_drawing report plan) 0 plan.graphs)

-- the drawing of the first of these graphs, under this number, from this time on and behind these routes
abbrev pub first_drawing : Option Report → (number from : ℕ) → (before : Tables) → List Graph → List ℕ
first_drawing report number from before graphs = unwrap_or (option_map (drawing report number from before) (slice_get graphs 0)) []

-- the generation that is asked for is among so many
abbrev pub IsWithin : ℕ → Which → Type 0
IsWithin count (One n) = n < count
IsWithin count All = Unit {0}
