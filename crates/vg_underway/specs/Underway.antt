-- Packets on their way from node to node, and what is still to be counted for them.
use Rattle.std.specs.Prelude.{ℕ, suc, ◌+◌, ◌*◌, ◌≤◌, List, [], ◌∷◌, ◌++◌, length, Option, None, Some, option_map, unwrap_or, is_some, if◌then◌else◌}
use Rattle.std.specs.List.{sum_by}
use Rattle.vg_model.specs.declared.fates.Leg.{Leg}
use Rattle.vg_model.specs.declared.kinds.Step.{Step}
use Rattle.vg_model.specs.Graph.{Graph}
use Rattle.vg_model.specs.Visit.{Visit}
use Rattle.vg_model.specs.Valid.{IsValid, IsKindSet}
use Rattle.vg_model.specs.Edit.{most_nodes, most_interfaces}
use Rattle.vg_model.specs.Leg.{Way, Move, Onward, Over, move_of, leg}
use Rattle.vg_pool.specs.Contents.{Contents, nothing as empty_chain}
use Rattle.vg_frame.specs.Placed.{buffer_at}
use Rattle.vg_journeys.specs.Ended.{Ended, ended_by, drop_visits}
use Rattle.vg_journeys.specs.Trips.{Arrival, legs_before, pieces_before, arrival_leg}
use Rattle.vg_underway.specs.declared.stations.Station.{Station}

-- what a worker has through a round: the visits of the kinds, the graph and its generation, how many workers there are, its number
pub record Setting : Type 0 where
  pub visit : Visit
  pub graph : Graph
  pub generation : ℕ
  pub workers : ℕ
  pub worker : ℕ

-- the setting of one of a run's workers
abbrev pub stationed : Visit → Graph → ℕ → Station → Setting
stationed visit graph generation station = record { visit = visit; graph = graph; generation = generation; workers = station.workers; worker = station.worker }

-- the kinds are lawful, and the graph is valid and within the limits
pub record IsSetting (s : Setting) : Type 0 where
  pub kinds : IsKindSet s.visit
  pub valid : IsValid s.graph
  pub few_nodes : length s.graph.nodes ≤ most_nodes
  pub few_interfaces : length s.graph.interfaces ≤ most_interfaces

-- a way of counting: what each visit of a node counts, and what each end counts
pub record Weights : Type 0 where
  pub visits : ℕ → ℕ
  pub ends : Ended → ℕ

-- what an end counts, with the visit of `error-drop` that it brings
abbrev pub end_weight : Weights → Ended → ℕ
end_weight t e = sum_by t.visits (drop_visits e.outcome) + t.ends e

-- what a leg counts
abbrev pub way_weight : Weights → List Leg → (pieces : ℕ) → Way → ℕ
way_weight t legs pieces way = sum_by t.visits way.visits + end_weight t (ended_by legs pieces way)

-- the leg of a packet from a node on
abbrev pub leg_of : Setting → ℕ → Contents → Option Way
leg_of s node c = leg s.visit s.graph s.workers s.worker (length c.legs) node c.packet

-- what is still to be counted for a packet at a node: its whole leg from there
abbrev pub owed : Setting → Weights → ℕ → Contents → ℕ
owed s t node c = unwrap_or (option_map (way_weight t c.legs c.pieces) (leg_of s node c)) 0

-- the leg of a packet that comes to the worker, its legs with this one, and what it counts
abbrev pub arrival_way : Setting → Arrival → Option Way
arrival_way s e = arrival_leg s.visit s.graph s.workers s.worker e

abbrev pub leg_here : Setting → Leg
leg_here s = record { worker = s.worker; generation = s.generation }

abbrev pub legs_at : Setting → Arrival → List Leg
legs_at s e = legs_before e ++ leg_here s ∷ []

abbrev pub arrival_owed : Setting → Weights → Arrival → ℕ
arrival_owed s t e = unwrap_or (option_map (way_weight t (legs_at s e) (pieces_before e)) (arrival_way s e)) 0

-- the packet after a visit, with the same legs and over the same chain
abbrev pub after_at : Setting → ℕ → Contents → Contents
after_at s node c = record c { packet = (s.visit s.graph node c.packet).1 }

-- where a packet goes after a step of a node
abbrev pub moved : Setting → ℕ → Contents → Step → Move
moved s node c step = move_of s.graph s.workers s.worker (length c.legs) node step

-- and after its visit there
abbrev pub move_at : Setting → ℕ → Contents → Move
move_at s node c = moved s node c (s.visit s.graph node c.packet).0

-- what is still to be counted for a packet after a step
abbrev pub move_owed : Setting → Weights → Contents → Move → ℕ
move_owed s t c (Onward (Some to)) = owed s t to c
move_owed s t c (Onward None) = 0
move_owed s t c (Over outcome) = end_weight t (record { outcome = outcome; contents = c })

-- a sum over lists, each by its place
abbrev pub sum_from : {X : Type 0} → (ℕ → X → ℕ) → ℕ → List (List X) → ℕ
sum_from f first [] = 0
sum_from f first (xs ∷ rest) = sum_by (f first) xs + sum_from f (suc first) rest

-- a sum over counts, each by its place
abbrev pub counts_from : (ℕ → ℕ) → ℕ → List ℕ → ℕ
counts_from f first [] = 0
counts_from f first (count ∷ rest) = f first * count + counts_from f (suc first) rest

-- what stands for an index without a buffer
abbrev pub nothing : Contents
nothing = empty_chain 1

-- what a memory has under an index
abbrev pub contents_at : List (Option Contents) → ℕ → Contents
contents_at memory index = unwrap_or (buffer_at memory index) nothing

-- 1 where the index has a buffer, or else 0
abbrev pub live_at : List (Option Contents) → ℕ → ℕ
live_at memory index = if is_some (buffer_at memory index) then 1 else 0

-- what is still to be counted for the packets that wait
abbrev pub waiting : Setting → Weights → List (Option Contents) → List (List ℕ) → ℕ
waiting s t memory pending = sum_from (λ node index. owed s t node (contents_at memory index)) 0 pending

-- and for those that were visited by a node, and aren't put away yet: indexes and steps
abbrev pub in_hand : Setting → Weights → ℕ → List (Option Contents) → List (ℕ × Step) → ℕ
in_hand s t node memory hand =
    sum_by (λ (p : ℕ × Step). move_owed s t (contents_at memory p.0) (moved s node (contents_at memory p.0) p.1)) hand
