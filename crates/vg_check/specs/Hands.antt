-- How often packets were handed over, and the pushes that were refused.
use Rattle.std.specs.Prelude.{◌≡◌, ℕ, ◌+◌, ◌*◌, ◌<◌, ◌≤◌, List, length, slice_index, slice_get, Option, Some, None}
use Rattle.std.specs.List.{AllByRecursion, sum_by}
use Rattle.vg_model.specs.declared.fates.Leg.{Leg}
use Rattle.vg_model.specs.Leg.{Outcome, Sent, Dropped, Handed}
use Rattle.vg_model.specs.Journey.{Course}
use Rattle.vg_model.specs.Lawful.{hands_in, last_worker}
use Rattle.vg_report.specs.declared.reports.PacketLine.{PacketLine}

-- how often packets that went so were handed from the one worker to the other
abbrev pub handed : List Course → (from to : ℕ) → ℕ
handed trips from to = sum_by (λ (t : Course). hands_in from to t.legs) trips

-- a packet that is handed over goes to one of the first eight workers
abbrev pub IsToWorker : Outcome → Type 0
IsToWorker (Sent interface) = Unit {0}
IsToWorker (Dropped node error) = Unit {0}
IsToWorker (Handed node worker) = worker < 8

-- one leg at least, all on the first eight workers
pub record IsOnWorkers (t : Course) : Type 0 where
  pub some : 1 ≤ length t.legs
  pub legs : AllByRecursion (λ (leg : Leg). leg.worker < 8) t.legs
  pub next : IsToWorker t.outcome

-- the counts by the first worker and then the second
pub record AreHands (trips : List Course) (counts : List ℕ) : Type 0 where
  pub size : length counts ≡ 64
  pub are : (from to : ℕ) → from < 8 → to < 8 → slice_index counts (from * 8 + to) ≡ handed trips from to

-- the push that a packet's line names as refused, if it names one, may have been
abbrev pub IsRefusalOf : (slots : ℕ) → (hands : ℕ → ℕ → ℕ) → List Leg → Option ℕ → Outcome → Type 0
IsRefusalOf slots hands legs (Some accepted) (Handed node worker) = (slots ≤ accepted) × (accepted ≤ hands (last_worker legs) worker)
IsRefusalOf slots hands legs (Some accepted) (Sent interface) = ⊥
IsRefusalOf slots hands legs (Some accepted) (Dropped node error) = ⊥
IsRefusalOf slots hands legs None outcome = Unit {0}

-- that of the packet with this number
pub record IsRefusalAt (slots : ℕ) (lines : List PacketLine) (trips : List Course) (number : ℕ) : Type 0 where
  pub line : PacketLine
  pub trip : Course
  pub is_line : slice_get lines number ≡ Some line
  pub is_trip : slice_get trips number ≡ Some trip
  pub may : IsRefusalOf slots (handed trips) trip.legs line.congested trip.outcome

-- those of the first packets, so many
abbrev pub AreRefusalsBelow : (slots : ℕ) → List PacketLine → List Course → ℕ → Type 0
AreRefusalsBelow slots lines trips number = (k : ℕ) → k < number → IsRefusalAt slots lines trips k

-- it is the first packet whose refused push may not have been
pub record IsFirstUnlawful (slots : ℕ) (lines : List PacketLine) (trips : List Course) (number : ℕ) : Type 0 where
  pub line : PacketLine
  pub trip : Course
  pub is_line : slice_get lines number ≡ Some line
  pub is_trip : slice_get trips number ≡ Some trip
  pub unlawful : IsRefusalOf slots (handed trips) trip.legs line.congested trip.outcome → ⊥
  pub before : AreRefusalsBelow slots lines trips number
