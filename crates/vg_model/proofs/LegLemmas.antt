-- For `legs_end`, and for `Work::dispatch_next` of vg_underway, `walk_leg` of vg_replay and `one_generation_ends_packets_alike` of vg_journeys: legs of valid
-- graphs, of which each is a visit and then the leg from the next node.
use Rattle.std.proofs.Common.{◌≡◌, ℕ, zero, suc, ◌<◌, Bool, true, false, length, refl, ap, arith}
use Rattle.std.specs.Prelude.{Option, Some, None, option_map, if◌then◌else◌}
use Rattle.vg_model.specs.declared.kinds.DropError.TheVariants.{HandoffLimit}
use Rattle.vg_model.specs.declared.kinds.Step.{Step}
use Rattle.vg_model.specs.declared.kinds.Step.TheVariants as steps
use Rattle.vg_model.specs.Hash.{target_worker}
use Rattle.vg_model.specs.Packet.{Packet}
use Rattle.vg_model.specs.Graph.{Graph, arc}
use Rattle.vg_model.specs.Visit.{Visit}
use Rattle.vg_model.specs.Leg.{Dropped, Handed, Way, Move, Onward, Over, first_slot, move_of, joined, after_visit, leg_within, leg}
use Rattle.vg_model.specs.Valid.{Walk, HasArc}
use Rattle.vg_model.proofs.Walks.{walk_cons}

-- what goes on from the next node decides
joined_same : (node : ℕ) (p : Packet) (t : Move) (f h : ℕ → Option Way) → ((to : ℕ) → t ≡ Onward (Some to) → f to ≡ h to) → joined node p t f ≡ joined node p t h
joined_same node p (Over outcome) f h e = refl
joined_same node p (Onward None) f h e = refl
joined_same node p (Onward (Some to)) f h e = ap (option_map (after_visit node)) (e to refl)

-- the node that a turn goes on to
onward_node : Move → Option ℕ
onward_node (Onward node) = node
onward_node (Over outcome) = None

-- a leg goes on over arcs alone
handed_arc : (g : Graph) (worker leg_number node target to : ℕ) (here last : Bool) →
    (if here then Onward (arc g node first_slot) else if last then Over (Dropped node HandoffLimit) else Over (Handed node target)) ≡ Onward (Some to) → HasArc g node to
unfolding onward_node
handed_arc g worker leg_number node target to true last e = (first_slot, ap onward_node e)
handed_arc g worker leg_number node target to false true e = cc
handed_arc g worker leg_number node target to false false e = cc

-- where a step leads on to a node, an arc does
pub move_arc : (g : Graph) (workers worker leg_number node to : ℕ) (step : Step) → move_of g workers worker leg_number node step ≡ Onward (Some to) → HasArc g node to
unfolding onward_node
move_arc g workers worker leg_number node to (steps.Next slot) e = (slot, ap onward_node e)
move_arc g workers worker leg_number node to (steps.Tx interface) e = cc
move_arc g workers worker leg_number node to (steps.Dropped error) e = cc
move_arc g workers worker leg_number node to (steps.Hand hash) e =
    handed_arc g worker leg_number node (target_worker workers hash) to _ _ e

-- where walks from a node have fewer arcs than the visits allowed, one more visit changes nothing
leg_enough : (visit : Visit) (g : Graph) (workers worker leg_number visits node : ℕ) (p : Packet) → ((b arcs : ℕ) → Walk (HasArc g) node b arcs → arcs < visits)
    → leg_within visit g workers worker leg_number visits node p ≡ leg_within visit g workers worker leg_number (suc visits) node p
leg_enough visit g workers worker leg_number zero node p short = absurd (let none : 0 < 0 = short node 0 refl in omega (arith, none))
leg_enough visit g workers worker leg_number (suc visits) node p short =
    let after = visit g node p in
    joined_same node after.1 (move_of g workers worker leg_number node after.0) _ _ (λ to e.
    leg_enough visit g workers worker leg_number visits to after.1 (λ b arcs w.
    let more : suc arcs < suc visits = short b (suc arcs) (walk_cons (HasArc g) node to b arcs (move_arc g workers worker leg_number node to after.0 e) w) in
    omega (arith, more)))

-- a leg is a visit, and then the leg from the next node
leg_step_at : (visit : Visit) (g : Graph) (workers worker leg_number node most : ℕ) (p : Packet) → ((a b arcs : ℕ) → Walk (HasArc g) a b arcs → arcs < most)
    → leg_within visit g workers worker leg_number most node p
    ≡ (let after = visit g node p in joined node after.1 (move_of g workers worker leg_number node after.0) (λ to. leg_within visit g workers worker leg_number most to after.1))
leg_step_at visit g workers worker leg_number node zero p short = absurd (let none : 0 < 0 = short node node 0 refl in omega (arith, none))
leg_step_at visit g workers worker leg_number node (suc visits) p short =
    let after = visit g node p in
    joined_same node after.1 (move_of g workers worker leg_number node after.0) _ _ (λ to e.
    leg_enough visit g workers worker leg_number visits to after.1 (λ b arcs w.
    let more : suc arcs < suc visits = short node b (suc arcs) (walk_cons (HasArc g) node to b arcs (move_arc g workers worker leg_number node to after.0 e) w) in
    omega (arith, more)))

-- the same in a graph where walks have fewer arcs than there are nodes
pub leg_step : (visit : Visit) (g : Graph) (workers worker leg_number node : ℕ) (p : Packet) → ((a b arcs : ℕ) → Walk (HasArc g) a b arcs → arcs < length g.nodes)
    → leg visit g workers worker leg_number node p
    ≡ (let after = visit g node p in joined node after.1 (move_of g workers worker leg_number node after.0) (λ to. leg visit g workers worker leg_number to after.1))
leg_step visit g workers worker leg_number node p short = leg_step_at visit g workers worker leg_number node (length g.nodes) p short
