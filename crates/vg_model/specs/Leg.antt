-- A packet's way from node to node on one worker, by one graph (VLIB: the graph dispatcher; handoff to another worker; that
-- a packet has at most four legs is this project's profile).
use Rattle.std.specs.Prelude.{ℕ, zero, suc, ◌==◌, List, [], ◌∷◌, length, Option, Some, None, option_map, if◌then◌else◌}
use Rattle.vg_model.specs.declared.kinds.DropError.{DropError}
use Rattle.vg_model.specs.declared.kinds.DropError.TheVariants.{HandoffLimit}
use Rattle.vg_model.specs.declared.kinds.Step.{Step}
use Rattle.vg_model.specs.declared.kinds.Step.TheVariants as steps
use Rattle.vg_model.specs.Hash.{target_worker}
use Rattle.vg_model.specs.Packet.{Packet}
use Rattle.vg_model.specs.Graph.{Graph, arc}
use Rattle.vg_model.specs.Visit.{Visit}

-- how a leg ends: on an interface, dropped by a node, or handed by a node to another worker
pub data Outcome : Type 0 where
  Sent : (interface : ℕ) → Outcome
  Dropped : (node : ℕ) (error : DropError) → Outcome
  Handed : (node worker : ℕ) → Outcome

-- a leg: how it ends, the packet then, and the nodes visited, in order
pub record Way : Type 0 where
  pub outcome : Outcome
  pub packet : Packet
  pub visits : List ℕ

-- where a leg goes on or ends after a step of a node
pub data Move : Type 0 where
  Onward : (node : Option ℕ) → Move
  Over : (outcome : Outcome) → Move

-- the slot over which a packet goes on that is handed over, and over which a received one does
abbrev pub first_slot : ℕ
first_slot = 0

-- the most legs of a packet
abbrev pub most_legs : ℕ
most_legs = 4

-- a packet that is handed over: where it is on its target already, it goes on in the same leg; in its fourth leg it is dropped
abbrev pub handed : Graph → (worker leg_number node target : ℕ) → Move
handed g worker leg_number node target =
    if target == worker then Onward (arc g node first_slot)
    else if leg_number == most_legs then Over (Dropped node HandoffLimit)
    else Over (Handed node target)

-- what a step makes of a leg
abbrev pub move_of : Graph → (workers worker leg_number node : ℕ) → Step → Move
move_of g workers worker leg_number node (steps.Next slot) = Onward (arc g node slot)
move_of g workers worker leg_number node (steps.Tx interface) = Over (Sent interface)
move_of g workers worker leg_number node (steps.Dropped error) = Over (Dropped node error)
move_of g workers worker leg_number node (steps.Hand hash) = handed g worker leg_number node (target_worker workers hash)

-- the leg with one more visit in front
abbrev pub after_visit : ℕ → Way → Way
after_visit node way = record way { visits = node ∷ way.visits }

-- the leg that ends at this node
abbrev pub ends_at : ℕ → Packet → Outcome → Way
ends_at node p outcome = record { outcome = outcome; packet = p; visits = node ∷ [] }

-- what a visit of a node and the rest of the leg make together
abbrev pub joined : ℕ → Packet → Move → (ℕ → Option Way) → Option Way
joined node p (Over outcome) go_on = Some (ends_at node p outcome)
joined node p (Onward None) go_on = None
joined node p (Onward (Some to)) go_on = option_map (after_visit node) (go_on to)

-- the leg from a node on, of at most so many visits
abbrev pub leg_within : Visit → Graph → (workers worker leg_number : ℕ) → (visits node : ℕ) → Packet → Option Way
leg_within visit g workers worker leg_number zero node p = None
leg_within visit g workers worker leg_number (suc visits) node p =
    let after = visit g node p in
    joined node after.1 (move_of g workers worker leg_number node after.0)
    (λ to. leg_within visit g workers worker leg_number visits to after.1)

-- the leg from a node on; no leg of a valid graph has more visits than there are nodes
abbrev pub leg : Visit → Graph → (workers worker leg_number node : ℕ) → Packet → Option Way
leg visit g workers worker leg_number node p = leg_within visit g workers worker leg_number (length g.nodes) node p
