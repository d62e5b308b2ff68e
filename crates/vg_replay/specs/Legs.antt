-- What contracts see of a leg.
use Rattle.std.specs.Prelude.{◌≡◌, ℕ, List, ◌++◌, Option, Some, None}
use Rattle.vg_model.specs.Packet.{Packet}
use Rattle.vg_model.specs.Graph.{Graph}
use Rattle.vg_model.specs.Visit.{Visit}
use Rattle.vg_model.specs.Leg as model
use Rattle.vg_model.specs.Leg.{Way}
use Rattle.vg_replay.specs.declared.legs.Outcome.{Outcome}
use Rattle.vg_replay.specs.declared.legs.Outcome.TheVariants as ends
use Rattle.vg_replay.specs.declared.legs.Move.{Move}
use Rattle.vg_replay.specs.declared.legs.Move.TheVariants as moves
use Rattle.vg_replay.specs.declared.legs.LegAt.{LegAt}

-- how a leg ends
abbrev pub outcome_of : Outcome → model.Outcome
outcome_of (ends.Sent interface) = model.Sent interface
outcome_of (ends.Dropped node error) = model.Dropped node error
outcome_of (ends.Handed node worker) = model.Handed node worker

-- where a leg goes on, or how it ends
abbrev pub move_as : Move → model.Move
move_as (moves.Onward node) = model.Onward (Some node)
move_as (moves.Over outcome) = model.Over (outcome_of outcome)

-- the leg of a packet from a node on
abbrev pub leg_at : Visit → Graph → LegAt → ℕ → Packet → Option Way
leg_at visit g at node p = model.leg visit g at.workers at.worker at.number node p

-- the way that ends so
abbrev pub way_of : Outcome → Packet → List ℕ → Way
way_of outcome after visits = record { outcome = outcome_of outcome; packet = after; visits = visits }

-- the leg of a packet from a node on ends so, leaves the packet so, and adds its visits behind these
pub record IsLeg (visit : Visit) (g : Graph) (at : LegAt) (first : ℕ) (before after : Packet) (before_visits after_visits : List ℕ) (outcome : Outcome) : Type 0 where
  pub visits : List ℕ
  pub is_leg : leg_at visit g at first before ≡ Some (way_of outcome after visits)
  pub are_visits : after_visits ≡ before_visits ++ visits

-- where a leg doesn't end with a drop, the packet is this one
abbrev pub IsUnlessDropped : model.Outcome → (one other : Packet) → Type 0
IsUnlessDropped (model.Sent interface) one other = one ≡ other
IsUnlessDropped (model.Dropped node error) one other = Unit {0}
IsUnlessDropped (model.Handed node worker) one other = one ≡ other

-- a leg that is there ends so, leaves the packet so, if it doesn't drop it, and adds its visits behind these
pub record IsLegOf (leg : Option Way) (after : Packet) (before_visits after_visits : List ℕ) (outcome : Outcome) : Type 0 where
  pub way : Way
  pub is : leg ≡ Some way
  pub outcome_is : way.outcome ≡ outcome_of outcome
  pub packet : IsUnlessDropped way.outcome after way.packet
  pub are_visits : after_visits ≡ before_visits ++ way.visits

-- the leg is there and ends so, or it isn't
abbrev pub MayBeLeg : Option Way → Packet → (before_visits after_visits : List ℕ) → Option Outcome → Type 0
MayBeLeg leg after before_visits after_visits None = leg ≡ None
MayBeLeg leg after before_visits after_visits (Some outcome) = IsLegOf leg after before_visits after_visits outcome
