-- The report of packets that went so, part by part.
use Rattle.std.specs.Prelude.{◌≡◌, ℕ, ◌<◌, ◌≤◌, nat_lt, Bool, List, [], ◌∷◌, ◌++◌, length, map, take, flat_map, filter, slice_index, Option, Some, None, if◌then◌else◌}
use Rattle.std.specs.List.{AllByRecursion, enumerate_from}
use Rattle.vg_model.specs.declared.kinds.DropError.{DropError}
use Rattle.vg_model.specs.Errors.{all_errors, error_number}
use Rattle.vg_model.specs.Graph.{Graph, Node}
use Rattle.vg_model.specs.Name.{IsName}
use Rattle.vg_model.specs.Journey.{Course, end_of}
use Rattle.vg_model.specs.Count.{drop_visit}
use Rattle.vg_counters.specs.Tally.{drops_at}
use Rattle.vg_journeys.specs.Ends.{IsEndIn}
use Rattle.vg_replay.specs.declared.replaying.Replayed.{Replayed}
use Rattle.vg_report.specs.declared.reports.PacketLine.{PacketLine}
use Rattle.vg_report.specs.declared.reports.PacketEnd.{PacketEnd}
use Rattle.vg_report.specs.declared.reports.PacketEnd.TheVariants as ends
use Rattle.vg_report.specs.declared.reports.Report.{Report}
use Rattle.vg_report.specs.Forms.{is_congestion}
use Rattle.vg_report.specs.Lawful.{IsLawful}
use Rattle.vg_check.specs.Output.{node_name, named_end}

-- each by its name, with the count of its number
abbrev pub counted : {X : Type 0} → (X → List ℕ) → List X → List ℕ → List (List ℕ × ℕ)
counted name_of xs counts = map (λ numbered. (name_of numbered.1, slice_index counts numbered.0)) (enumerate_from 0 xs)

-- an error of a node of this name, with how often it was made
abbrev pub made_entry : List ℕ → (DropError → ℕ) → DropError → List ℕ × DropError × ℕ
made_entry name count error = (name, error, count error)

-- of some errors of a node of this name those that were made
abbrev pub made_of : List ℕ → (DropError → ℕ) → List DropError → List (List ℕ × DropError × ℕ)
made_of name count errors = filter (λ (entry : List ℕ × DropError × ℕ). nat_lt 0 entry.2) (map (made_entry name count) errors)

-- how often a node made an error, by these drops
abbrev pub made_by : List (List ℕ) → ℕ → DropError → ℕ
made_by drops node error = drops_at node (error_number error) drops

-- the errors of all nodes that were made
abbrev pub all_made : List Node → List (List ℕ) → List (List ℕ × DropError × ℕ)
all_made nodes drops = flat_map (λ numbered. made_of numbered.1.name (made_by drops numbered.0) all_errors) (enumerate_from 0 nodes)

-- the line of a packet that went so, with the count of a refusing queue
abbrev pub line_by : Graph → Option ℕ → Course → PacketLine
line_by g congested t = record { legs = t.legs; congested = congested; end = named_end g (end_of t.outcome) }

-- the lines of packets, with the counts that these lines name
abbrev pub lines_by : Graph → List PacketLine → List Course → List PacketLine
lines_by g [] trips = []
lines_by g (line ∷ lines) [] = []
lines_by g (line ∷ lines) (t ∷ trips) = line_by g line.congested t ∷ lines_by g lines trips

-- the nodes that a packet visited
abbrev pub trace_of : Course → List ℕ
trace_of t = t.visits ++ drop_visit (end_of t.outcome)

-- the report of what came of packets, with the head and as many traces as this one has
abbrev pub reported : Report → Replayed → Report
reported report replayed = record {
  workers = report.workers;
  buffers = report.buffers;
  generations = report.generations;
  interfaces = counted (λ interface. interface.name) replayed.last.interfaces replayed.counts.sends;
  nodes = counted (λ (node : Node). node.name) replayed.last.nodes replayed.counts.visits;
  errors = all_made replayed.last.nodes replayed.counts.drops;
  packets = lines_by replayed.last report.packets replayed.trips;
  traces = map (λ t. map (node_name replayed.last) (trace_of t)) (take (length report.traces) replayed.trips);
}

-- the names of counts are names
abbrev pub AreNames : List (List ℕ × ℕ) → Type 0
AreNames counts = AllByRecursion (λ (entry : List ℕ × ℕ). IsName entry.0) counts

-- 0 where a test holds
abbrev pub zero_where : Bool → Option ℕ
zero_where test = if test then Some 0 else None

-- the count of a line that ends so: its own, and 0 where a drop by congestion has none
abbrev pub count_with : Option ℕ → PacketEnd → Option ℕ
count_with (Some accepted) end = Some accepted
count_with None (ends.Tx interface) = None
count_with None (ends.Dropped node error) = zero_where (is_congestion error)

-- a line with a count at a drop by congestion
abbrev pub with_count : PacketLine → PacketLine
with_count line = record line { congested = count_with line.congested line.end }

-- a report with a count at each drop by congestion: a node may drop a packet by congestion where no queue is full, and there is no count then
abbrev pub with_counts : Report → Report
with_counts report = record report { packets = map with_count report.packets }

-- all that the report names is in the last graph, and where names are names the report is lawful, but for counts that drops by congestion lack
pub record CanReport (report : Report) (replayed : Replayed) : Type 0 where
  pub lines : length report.packets ≡ length replayed.trips
  pub few : length report.traces ≤ length replayed.trips
  pub nodes : length replayed.last.nodes ≤ length replayed.counts.visits
  pub interfaces : length replayed.last.interfaces ≤ length replayed.counts.sends
  pub ends : AllByRecursion (λ (t : Course). IsEndIn replayed.last (end_of t.outcome)) replayed.trips
  pub visits : AllByRecursion (λ (t : Course). AllByRecursion (λ node. node < length replayed.last.nodes) (trace_of t)) (take (length report.traces) replayed.trips)
  pub lawful : AreNames (reported report replayed).interfaces → AreNames (reported report replayed).nodes → IsLawful (with_counts (reported report replayed))
