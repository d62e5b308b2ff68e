-- What is counted of packets that are through.
use Rattle.std.specs.Prelude.{◌≡◌, ℕ, ◌+◌, ◌<◌, ◌^◌, ◌==◌, List, [], length, slice_index, slice_get, unwrap_or, option_map, option_and_then, Option, if◌then◌else◌}
use Rattle.std.specs.List.{AllByRecursion, sum_by, count_by}
use Rattle.vg_model.specs.declared.kinds.DropError.{DropError}
use Rattle.vg_model.specs.declared.fates.End.{End}
use Rattle.vg_model.specs.declared.fates.End.TheVariants as ends
use Rattle.vg_model.specs.Errors.{error_number}
use Rattle.vg_model.specs.Edit.{most_nodes, most_interfaces}
use Rattle.vg_model.specs.Graph.{error_drop}
use Rattle.vg_model.specs.Journey.{Journey, Choice, Course, end_of}
use Rattle.vg_model.specs.Count.{trace, is_drop, is_sent_on}
use Rattle.vg_counters.specs.Tally.{Tally, IsSameSize, drops_at}
use Rattle.vg_replay.specs.Tasks.{Task, journey_under}

-- the generations that a packet chooses, and its journey
abbrev pub generations_at : Task → ℕ → List ℕ
generations_at task number = unwrap_or (option_map (λ (choice : Choice). choice.generations) (slice_get task.choices number)) []

abbrev pub journey_at : Task → ℕ → Option Journey
journey_at task number = option_and_then (λ bytes. option_and_then (journey_under task number bytes) (slice_get task.choices number)) (slice_get task.packets number)

-- what is counted of the journey of a packet that is through
abbrev pub counted : Task → (Journey → ℕ) → Course → ℕ
counted task f trip =
    if length trip.legs == length (generations_at task trip.packet.number) then unwrap_or (option_map f (journey_at task trip.packet.number)) 0 else 0

-- the visits of a node, the drops of a node with an error, and the transmits of an interface
abbrev pub visits_of : ℕ → Journey → ℕ
visits_of node j = count_by (λ n. n == node) (trace j)

abbrev pub drops_of : ℕ → DropError → Journey → ℕ
drops_of node error j = if is_drop node error (end_of j.course.outcome) then 1 else 0

abbrev pub sends_of : ℕ → Journey → ℕ
sends_of interface j = if is_sent_on interface (end_of j.course.outcome) then 1 else 0

-- the counts are those of the packets that are through
pub record AreCountsOf (task : Task) (trips : List Course) (tally : Tally) : Type 0 where
  pub nodes : length tally.visits ≡ most_nodes
  pub interfaces : length tally.sends ≡ most_interfaces
  pub visits : (node : ℕ) → slice_index tally.visits node ≡ sum_by (counted task (visits_of node)) trips
  pub drops : (node : ℕ) (error : DropError) → drops_at node (error_number error) tally.drops ≡ sum_by (counted task (drops_of node error)) trips
  pub sends : (interface : ℕ) → slice_index tally.sends interface ≡ sum_by (counted task (sends_of interface)) trips

-- an end at a node, or on an interface, of these
abbrev pub IsEndWithin : (nodes interfaces : ℕ) → End → Type 0
IsEndWithin nodes interfaces (ends.Tx interface) = interface < interfaces
IsEndWithin nodes interfaces (ends.Dropped node error) = node < nodes

-- these visits can be counted
pub record CanVisit (visits : List ℕ) (tally : Tally) : Type 0 where
  pub nodes : AllByRecursion (λ node. node < length tally.visits) visits
  pub few : (node : ℕ) → slice_index tally.visits node + length visits < 2 ^ 63

-- this end can be counted
pub record CanEnd (end : End) (tally : Tally) : Type 0 where
  pub within : IsEndWithin (length tally.visits) (length tally.sends) end
  pub drop : error_drop < length tally.visits
  pub few : (node : ℕ) → slice_index tally.visits node + 1 < 2 ^ 63
  pub few_drops : (node : ℕ) (error : DropError) → drops_at node (error_number error) tally.drops + 1 < 2 ^ 63
  pub few_sends : (interface : ℕ) → slice_index tally.sends interface + 1 < 2 ^ 63

-- both can be counted
pub record CanCount (visits : List ℕ) (end : End) (tally : Tally) : Type 0 where
  pub nodes : AllByRecursion (λ node. node < length tally.visits) visits
  pub within : IsEndWithin (length tally.visits) (length tally.sends) end
  pub drop : error_drop < length tally.visits
  pub few : (node : ℕ) → slice_index tally.visits node + length visits + 1 < 2 ^ 63
  pub few_drops : (node : ℕ) (error : DropError) → drops_at node (error_number error) tally.drops + 1 < 2 ^ 63
  pub few_sends : (interface : ℕ) → slice_index tally.sends interface + 1 < 2 ^ 63

-- these visits are counted
pub record AddsVisits (visits : List ℕ) (old new : Tally) : Type 0 where
  pub size : IsSameSize old new
  pub visits_are : (node : ℕ) → slice_index new.visits node ≡ slice_index old.visits node + count_by (λ n. n == node) visits
  pub drops : new.drops ≡ old.drops
  pub sends : new.sends ≡ old.sends

-- these visits and this end are counted
pub record Adds (visits : List ℕ) (end : End) (old new : Tally) : Type 0 where
  pub size : IsSameSize old new
  pub visits_are : (node : ℕ) → slice_index new.visits node ≡ slice_index old.visits node + count_by (λ n. n == node) visits
  pub drops : (node : ℕ) (error : DropError) → drops_at node (error_number error) new.drops ≡ drops_at node (error_number error) old.drops + (if is_drop node error end then 1 else 0)
  pub sends : (interface : ℕ) → slice_index new.sends interface ≡ slice_index old.sends interface + (if is_sent_on interface end then 1 else 0)
