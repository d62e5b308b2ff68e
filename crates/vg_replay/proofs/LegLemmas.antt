-- For the clause of `walk_leg`: a leg, visit by visit.
use Rattle.std.proofs.Common.{◌≡◌, ℕ, ◌<◌, List, [], ◌∷◌, ◌++◌, length, refl, sym, ap, subst, ◌∙◌, arith, append_assoc}
use Rattle.std.specs.Prelude.{Option, Some, None, option_map, unwrap_or, slice_get}
use Rattle.std.proofs.lemmas.Option.{none-some, same_Some, slice_get_within}
use Rattle.vg_model.specs.declared.kinds.Step.{Step}
use Rattle.vg_model.specs.Packet.{Packet}
use Rattle.vg_model.specs.Graph.{Graph, Node, kind_at}
use Rattle.vg_model.specs.Visit.{Visit}
use Rattle.vg_model.specs.Leg.{Way, Move, Onward, Over, move_of, joined, after_visit, ends_at}
use Rattle.vg_model.specs.Valid.{IsValid, IsTarget, IsPacket, IsStepOf, IsVisitOf, IsKindSet}
use Rattle.vg_model.proofs.LegLemmas.{leg_step, move_arc}
use Rattle.vg_model.proofs.LegEnds.{leg_some, arc_target, kind_some}
use Rattle.vg_model.proofs.Journeys.{map_some}
use Rattle.vg_replay.specs.declared.legs.Outcome.{Outcome}
use Rattle.vg_replay.specs.declared.legs.LegAt.{LegAt}
use Rattle.vg_replay.specs.Legs.{outcome_of, leg_at, way_of, IsLeg}

-- how a visit and the rest of a leg make a leg
abbrev Parts : ℕ → Packet → (ℕ → Option Way) → Way → Move → Type 0
Parts node p go_on way (Over outcome) = ends_at node p outcome ≡ way
Parts node p go_on way (Onward None) = ⊥
Parts node p go_on way (Onward (Some to)) = (rest : Way) × (go_on to ≡ Some rest) × (after_visit node rest ≡ way)

-- each leg is made so
parts_of : (node : ℕ) (p : Packet) (move : Move) (go_on : ℕ → Option Way) (way : Way) → joined node p move go_on ≡ Some way → Parts node p go_on way move
parts_of node p (Over outcome) go_on way e = same_Some _ _ e
parts_of node p (Onward None) go_on way e = absurd (none-some way e)
parts_of node p (Onward (Some to)) go_on way e = map_some (after_visit node) (go_on to) way e

-- a packet on its leg: what is left of it makes the whole leg
pub record IsOnTheWay (visit : Visit) (g : Graph) (at : LegAt) (first : ℕ) (before : Packet) (visits_before : List ℕ) (node : ℕ) (now : Packet) (visits : List ℕ) : Type 0 where
  pub way : Way
  pub is_leg : leg_at visit g at first before ≡ Some way
  pub rest : Way
  pub is_rest : leg_at visit g at node now ≡ Some rest
  pub outcome : way.outcome ≡ rest.outcome
  pub packet : way.packet ≡ rest.packet
  pub same : visits ++ rest.visits ≡ visits_before ++ way.visits
  pub target : IsTarget (kind_at g node)
  pub possible : IsPacket now

-- a target is a node of the graph
pub target_within : (g : Graph) (node : ℕ) → IsTarget (kind_at g node) → node < length g.nodes
target_within g node target =
    let kind = kind_some (kind_at g node) target in
    let found = map_some (λ (n : Node). n.kind) (slice_get g.nodes node) kind.0 kind.1 in
    slice_get_within g.nodes node found.0 found.1

-- at its first node
pub way_starts : (visit : Visit) (g : Graph) (at : LegAt) (first : ℕ) (p : Packet) (visits : List ℕ) → IsKindSet visit → IsValid g → IsTarget (kind_at g first) → IsPacket p
    → IsOnTheWay visit g at first p visits first p visits
way_starts visit g at first p visits kinds valid target possible =
    let found = leg_some visit g at.workers at.worker at.number first p kinds valid possible target in
    record {
      way = found.0;
      is_leg = found.1;
      rest = found.0;
      is_rest = found.1;
      outcome = refl;
      packet = refl;
      same = refl;
      target = target;
      possible = possible;
    }

-- the rest of a leg in its parts
rest_parts : (visit : Visit) (g : Graph) (at : LegAt) (node : ℕ) (p : Packet) (after : Step × Packet) (move : Move) (rest : Way) → IsValid g → leg_at visit g at node p ≡ Some rest
    → visit g node p ≡ after → move_of g at.workers at.worker at.number node after.0 ≡ move → Parts node after.1 (λ to. leg_at visit g at to after.1) rest move
rest_parts visit g at node p after move rest valid e visited moved =
    parts_of node after.1 move (λ to. leg_at visit g at to after.1) rest
    (sym (leg_step visit g at.workers at.worker at.number node p valid.acyclic
    ∙ ap (λ (a : Step × Packet). joined node a.1 (move_of g at.workers at.worker at.number node a.0) (λ to. leg_at visit g at to a.1)) visited
    ∙ ap (λ m. joined node after.1 m (λ to. leg_at visit g at to after.1)) moved) ∙ e)

-- how many visits are left of a leg
abbrev pub visits_left : Visit → Graph → LegAt → ℕ → Packet → ℕ
visits_left visit g at node p = unwrap_or (option_map (λ (way : Way). length way.visits) (leg_at visit g at node p)) 0

-- it is that of the rest of a leg
left_is : (visit : Visit) (g : Graph) (at : LegAt) (node : ℕ) (p : Packet) (rest : Way) → leg_at visit g at node p ≡ Some rest → visits_left visit g at node p ≡ length rest.visits
left_is visit g at node p rest e = ap (λ o. unwrap_or (option_map (λ (way : Way). length way.visits) o) 0) e

module _ (visit : Visit) (g : Graph) (at : LegAt) (first : ℕ) (before : Packet) (visits_before : List ℕ) (node : ℕ) (now : Packet) (visits : List ℕ) (kinds : IsKindSet visit) (valid : IsValid g)
    (on : IsOnTheWay visit g at first before visits_before node now visits) (step : Step) (after : Packet) (visited : visit g node now ≡ (step, after)) where
  -- the laws of the visit
  laws : IsVisitOf g node now (step, after)
  laws = subst (IsVisitOf g node now) visited (kinds g node now valid on.target on.possible)

  -- the step is one of the node's
  pub step_of : IsStepOf g (kind_at g node) step
  step_of = laws.step

  -- the packet goes on
  pub way_goes_on : (to : ℕ) (visits_after : List ℕ) → move_of g at.workers at.worker at.number node step ≡ Onward (Some to) → visits_after ≡ visits ++ node ∷ []
      → IsOnTheWay visit g at first before visits_before to after visits_after
  way_goes_on to visits_after moved noted =
      let parts = rest_parts visit g at node now (step, after) (Onward (Some to)) on.rest valid on.is_rest visited moved in
      let rest : Way = parts.0 in
      record {
        way = on.way;
        is_leg = on.is_leg;
        rest = rest;
        is_rest = parts.1;
        outcome = on.outcome ∙ ap (λ (w : Way). w.outcome) (sym parts.2);
        packet = on.packet ∙ ap (λ (w : Way). w.packet) (sym parts.2);
        same = ap (λ vs. vs ++ rest.visits) noted ∙ append_assoc visits (node ∷ []) rest.visits ∙ ap (λ (w : Way). visits ++ w.visits) parts.2 ∙ on.same;
        target = arc_target g node to valid (move_arc g at.workers at.worker at.number node to step moved);
        possible = laws.packet;
      }

  -- and has fewer visits left
  pub fewer_left : (to : ℕ) → move_of g at.workers at.worker at.number node step ≡ Onward (Some to) → visits_left visit g at to after < visits_left visit g at node now
  fewer_left to moved =
      let parts = rest_parts visit g at node now (step, after) (Onward (Some to)) on.rest valid on.is_rest visited moved in
      let size : length on.rest.visits ≡ length (after_visit node parts.0).visits = ap (λ (w : Way). length w.visits) (sym parts.2) in
      let left : visits_left visit g at node now ≡ length on.rest.visits = left_is visit g at node now on.rest on.is_rest in
      let less : visits_left visit g at to after ≡ length parts.0.visits = left_is visit g at to after parts.0 parts.1 in
      omega (arith, size, left, less)

  -- the packet's leg ends
  pub way_ends : (end : Outcome) (visits_after : List ℕ) → move_of g at.workers at.worker at.number node step ≡ Over (outcome_of end) → visits_after ≡ visits ++ node ∷ []
      → IsLeg visit g at first before after visits_before visits_after end
  way_ends end visits_after moved noted =
      let last : ends_at node after (outcome_of end) ≡ on.rest = rest_parts visit g at node now (step, after) (Over (outcome_of end)) on.rest valid on.is_rest visited moved in
      let is : on.way ≡ way_of end after on.way.visits =
      λ i. record {
        outcome = (on.outcome ∙ ap (λ (w : Way). w.outcome) (sym last)) i;
        packet = (on.packet ∙ ap (λ (w : Way). w.packet) (sym last)) i;
        visits = on.way.visits;
      } in
      record {
        visits = on.way.visits;
        is_leg = on.is_leg ∙ ap Some is;
        are_visits = noted ∙ ap (λ (w : Way). visits ++ w.visits) last ∙ on.same;
      }
