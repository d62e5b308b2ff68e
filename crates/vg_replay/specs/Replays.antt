-- What comes of taking packets through their choices.
use Rattle.std.specs.Prelude.{◌≡◌, ℕ, ◌-◌, ◌≤◌, List, [], length, map, take, slice_get, Some}
use Rattle.std.specs.List.{AllByRecursion}
use Rattle.vg_model.specs.declared.fates.Leg.{Leg}
use Rattle.vg_model.specs.Edit.{most_nodes, most_interfaces}
use Rattle.vg_model.specs.Visit.{Visit}
use Rattle.vg_model.specs.Leg.{Outcome, Sent, Dropped, Handed}
use Rattle.vg_model.specs.Journey.{Journey, Course}
use Rattle.vg_model.specs.Valid.{AreBytes}
use Rattle.vg_plan.specs.Plan.{first_generation}
use Rattle.vg_journeys.specs.Outcomes.{AreCounts}
use Rattle.vg_replay.specs.Tasks.{Task, choice_of, AreTaken, IsFirstFault}
use Rattle.vg_replay.specs.declared.inputs.Input.{Input}
use Rattle.vg_replay.specs.declared.replaying.Replayed.{Replayed}
use Rattle.vg_replay.specs.declared.replaying.ReplayError.{ReplayError}
use Rattle.vg_replay.specs.declared.replaying.ReplayError.TheVariants as errors

-- what is to be taken through
abbrev pub task_of : Visit → Input → Task
task_of visit input = record {
  visit = visit;
  graphs = input.plan.now.graphs;
  workers = input.workers;
  first = first_generation input.plan.now.script input.capture.now;
  packets = map (λ p. p.bytes) input.capture.now.packets;
  choices = map choice_of input.lines.now;
}

-- there are 1 to 8 workers, and a line for each packet
pub record IsInput (input : Input) : Type 0 where
  pub workers : (1 ≤ input.workers) × (input.workers ≤ 8)
  pub lines : length input.lines.now ≡ length input.capture.now.packets

-- what is told of a journey, whatever became of a packet that was dropped: its legs, its end, and the bytes transmitted
pub record Told : Type 0 where
  pub legs : List Leg
  pub outcome : Outcome
  pub bytes : List ℕ

abbrev pub sent_bytes : List ℕ → Outcome → List ℕ
sent_bytes bytes (Sent interface) = bytes
sent_bytes bytes (Dropped node error) = []
sent_bytes bytes (Handed node worker) = []

abbrev pub told : Course → Told
told c = record { legs = c.legs; outcome = c.outcome; bytes = sent_bytes c.packet.bytes c.outcome }

-- all packets have their journeys, and these are told: with the nodes visited by so many of the first, the counts, and the last generation
pub record AreReplayed (task : Task) (traced : ℕ) (replay : Replayed) : Type 0 where
  pub js : List Journey
  pub taken : AreTaken task js
  pub possible : AllByRecursion AreBytes task.packets
  pub trips : map told replay.trips ≡ map (λ (j : Journey). told j.course) js
  pub visits : map (λ (c : Course). c.visits) (take traced replay.trips) ≡ map (λ (j : Journey). j.course.visits) (take traced js)
  pub counts : AreCounts js replay.counts
  pub nodes : length replay.counts.visits ≡ most_nodes
  pub interfaces : length replay.counts.sends ≡ most_interfaces
  pub last : slice_get task.graphs (length task.graphs - 1) ≡ Some replay.last

-- why packets can't all be taken through: the first that has no journey, or want of memory
abbrev pub IsRefusal : Task → ReplayError → Type 0
IsRefusal task (errors.Choices number) = IsFirstFault task number
IsRefusal task errors.Memory = Unit {0}
